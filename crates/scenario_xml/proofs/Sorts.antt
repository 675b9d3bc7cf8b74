-- What a child of the root is, by its name and the document's version.
use Rattle.std.proofs.Common.{◌≡◌, ℕ, Bool, true, false, List, Ok, refl, sym, subst}
use Rattle.std.specs.Prelude.{codes}
use Rattle.std.specs.Str.{bytes_eq}
use Rattle.std.proofs.lemmas.Slice.Eq.{bytes_eq-Decides}
use Rattle.element_tree.specs.Document.{Document}
use Rattle.element_tree.specs.Trees.{name_of}
use Rattle.scenario_model.specs.declared.scenario.Version.{Version}
use Rattle.scenario_model.specs.declared.scenario.Version.TheVariants.{V2020a, V2018b}
use Rattle.scenario_xml.specs.ScenarioOf.{is_lanelet, is_obstacle, is_problem}
use Rattle.scenario_xml.specs.Scenarios.{content_step, lanelet_step, obstacle_step, problem_step}
use Rattle.scenario_xml.specs.Versions.{names_obstacle}
use Rattle.scenario_xml.specs.declared.contents.Contents.{Contents}

-- a child of the root is read so, after all that was read in this version
abbrev pub IsReadAs : Version → (Contents → Type 0) → Type 0
IsReadAs version P = (s : Contents) → s.version ≡ version → P s

pub data Sort (version : Version) (document : Document) (k : ℕ) : Type 0 where
  a_lanelet : is_lanelet document k ≡ true → is_obstacle version document k ≡ false → is_problem document k ≡ false
      → IsReadAs version (λ s. content_step document k s ≡ lanelet_step document k s) → Sort version document k
  an_obstacle : is_lanelet document k ≡ false → is_obstacle version document k ≡ true → is_problem document k ≡ false
      → IsReadAs version (λ s. content_step document k s ≡ obstacle_step document k s) → Sort version document k
  a_problem : is_lanelet document k ≡ false → is_obstacle version document k ≡ false → is_problem document k ≡ true
      → IsReadAs version (λ s. content_step document k s ≡ problem_step document k s) → Sort version document k
  another : is_lanelet document k ≡ false → is_obstacle version document k ≡ false → is_problem document k ≡ false
      → IsReadAs version (λ s. content_step document k s ≡ Ok s) → Sort version document k

-- an element with one name has no other
other_name : (name one other : List ℕ) → bytes_eq name one ≡ true → bytes_eq one other ≡ false → bytes_eq name other ≡ false
other_name name one other e h = subst (λ (x : List ℕ). bytes_eq x other ≡ false) (sym ((bytes_eq-Decides name one).0 e)) h

no_obstacle : (version : Version) (name one : List ℕ) → bytes_eq name one ≡ true → names_obstacle version one ≡ false → names_obstacle version name ≡ false
no_obstacle version name one e h = subst (λ (x : List ℕ). names_obstacle version x ≡ false) (sym ((bytes_eq-Decides name one).0 e)) h

-- a lanelet or a problem is no obstacle in any version
lanelet_is_none : (version : Version) → names_obstacle version (codes "lanelet") ≡ false
unfolding names_obstacle
lanelet_is_none V2020a = refl
lanelet_is_none V2018b = refl

problem_is_none : (version : Version) → names_obstacle version (codes "planningProblem") ≡ false
unfolding names_obstacle
problem_is_none V2020a = refl
problem_is_none V2018b = refl

by_name : (version : Version) (document : Document) (k : ℕ) (a b c : Bool) → is_lanelet document k ≡ a → is_obstacle version document k ≡ b → is_problem document k ≡ c → Sort version document k
unfolding is_lanelet is_problem content_step
by_name version document k true b c e f g =
    a_lanelet e (no_obstacle version (name_of document k) (codes "lanelet") e (lanelet_is_none version))
    (other_name (name_of document k) (codes "lanelet") (codes "planningProblem") e refl) (λ s same. rw e refl)
by_name version document k false true true e f g =
    let other = no_obstacle version (name_of document k) (codes "planningProblem") g (problem_is_none version) in
    absurd cc
by_name version document k false true false e f g = an_obstacle e f g (λ s same. rw (e, same, f) refl)
by_name version document k false false true e f g = a_problem e f g (λ s same. rw (e, same, f, g) refl)
by_name version document k false false false e f g = another e f g (λ s same. rw (e, same, f, g) refl)

pub sort_of : (version : Version) (document : Document) (k : ℕ) → Sort version document k
sort_of version document k = by_name version document k (is_lanelet document k) (is_obstacle version document k) (is_problem document k) refl refl refl
