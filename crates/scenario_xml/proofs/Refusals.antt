-- A child of the root is refused just where the definition refuses it.
use Rattle.std.proofs.Common.{◌≡◌, ◌≢◌, ℕ, ◌<◌, Bool, true, false, cond, eqb, leb, List, ◌∷◌, [], ◌++◌, length, Result, Ok, Err, refl, sym, subst, ◌∙◌}
use Rattle.std.specs.List.{All, Any, list_any}
use Rattle.std.proofs.lemmas.Bool.{leb-true, leb-false, le-leb, lt-leb, eq-eqb, eqb-true}
use Rattle.std.proofs.lemmas.List.Folds.{Any-from_list_any, list_any-from_Any}
use Rattle.element_tree.specs.Document.{Document}
use Rattle.reading.specs.Reading.{◌>>=◌}
use Rattle.scenario_model.specs.declared.lanelet.Lanelet.{Lanelet}
use Rattle.scenario_model.specs.declared.obstacle.Obstacle.{Obstacle}
use Rattle.scenario_model.specs.declared.problem.Problem.{Problem}
use Rattle.scenario_xml.specs.Elements.{id_attribute}
use Rattle.scenario_xml.specs.Goals.{problem}
use Rattle.scenario_xml.specs.Lanelets.{lanelet}
use Rattle.scenario_xml.specs.Obstacles.{any_obstacle}
use Rattle.scenario_xml.specs.ScenarioFaults.{IsItemRefused, too_many, without_id, same_id, in_content, IsRefused, as_lanelet, as_obstacle, as_problem}
use Rattle.scenario_xml.specs.ScenarioOf.{is_lanelet, is_obstacle, is_problem}
use Rattle.scenario_xml.specs.Scenarios.{has_id, new_id, lanelet_step, obstacle_step, problem_step, content_step}
use Rattle.scenario_xml.specs.declared.contents.Contents.{Contents}
use Rattle.scenario_xml.specs.declared.fault.Kind.{Kind}
use Rattle.scenario_xml.specs.declared.fault.Kind.TheVariants as kind
use Rattle.scenario_xml.specs.declared.fault.ScenarioFault.{ScenarioFault}
use Rattle.scenario_xml.specs.declared.fault.ScenarioFault.TheVariants.{TooMany, DuplicateId}
use Rattle.scenario_xml.specs.declared.fault.Wanted.TheVariants as wanted
use Rattle.scenario_xml.proofs.Groups.{found_none, none_found}
use Rattle.scenario_xml.proofs.ItemSteps.{fresh, added}
use Rattle.scenario_xml.proofs.Sorts.{Sort, a_lanelet, an_obstacle, a_problem, another, sort_of}
use Rattle.scenario_model.specs.declared.limits.TheConstants.{MAX_LANELETS, MAX_OBSTACLES, MAX_PROBLEMS}

pub same_fault : {A F : Type 0} (r : Result A F) (e f : F) → r ≡ Err e → r ≡ Err f → e ≡ f
same_fault r e f h k = cc

module _ {X : Type 0} (what : Kind) (limit : ℕ) (id_of : X → ℕ) (items : List X) (found : Result ℕ ScenarioFault) (content : ℕ → Result X ScenarioFault) (put : X → Contents) where
  abbrev Refused : ScenarioFault → Type 0
  Refused f = IsItemRefused what limit id_of items found content f

  abbrev instead : (f g : ScenarioFault) → ◌≡◌ {A = Result Contents ScenarioFault} (Err f) (Err g) → Refused f → Refused g
  instead f g e h = subst Refused (same_fault {A = Contents} (Err f) f g refl e) h

  one_has : (id : ℕ) → list_any (λ x. eqb (id_of x) id) items ≡ true → Any (λ x. id_of x ≡ id) items
  one_has id h =
      let a = Any-from_list_any (λ x. eqb (id_of x) id) items h in
      (a.0, a.1, a.2, a.3, eqb-true (id_of a.1) id a.4)

  has_one : (id : ℕ) → Any (λ x. id_of x ≡ id) items → list_any (λ x. eqb (id_of x) id) items ≡ true
  has_one id a = list_any-from_Any (λ x. eqb (id_of x) id) items (a.0, a.1, a.2, a.3, eq-eqb (id_of a.1) id a.4)

  by_content : (id : ℕ) (f : ScenarioFault) (r : Result X ScenarioFault) → length items < limit → found ≡ Ok id → All (λ x. id_of x ≢ id) items → content id ≡ r
      → (r >>= λ x. Ok (put x)) ≡ Err f → Refused f
  by_content id f (Ok x) room h new k e = absurd cc
  by_content id f (Err g) room h new k e = instead g f e (in_content id g room h new k)

  by_double : (id : ℕ) (f : ScenarioFault) (double : Bool) → length items < limit → found ≡ Ok id → list_any (λ x. eqb (id_of x) id) items ≡ double
      → added (cond double (Err (DuplicateId id)) (Ok id)) content put ≡ Err f → Refused f
  by_double id f true room h k e = instead (DuplicateId id) f e (same_id id room h (one_has id k))
  by_double id f false room h k e = by_content id f (content id) room h (found_none id_of id items k) refl e

  by_id : (f : ScenarioFault) (r : Result ℕ ScenarioFault) → length items < limit → found ≡ r
      → added (r >>= λ id. cond (list_any (λ x. eqb (id_of x) id) items) (Err (DuplicateId id)) (Ok id)) content put ≡ Err f → Refused f
  by_id f (Ok id) room h e = by_double id f (list_any (λ x. eqb (id_of x) id) items) room h refl e
  by_id f (Err g) room h e = instead g f e (without_id g room h)

  by_room : (f : ScenarioFault) (full : Bool) → leb limit (length items) ≡ full
      → added (cond full (Err (TooMany what)) (found >>= λ id. cond (list_any (λ x. eqb (id_of x) id) items) (Err (DuplicateId id)) (Ok id))) content put ≡ Err f → Refused f
  by_room f true h e = instead (TooMany what) f e (too_many (leb-true limit (length items) h))
  by_room f false h e = by_id f found (leb-false limit (length items) h) refl e

  -- one more item that is refused, for one of the four reasons
  refused_by : (f : ScenarioFault) → added (fresh limit (TooMany what) id_of items found) content put ≡ Err f → Refused f
  refused_by f e = by_room f (leb limit (length items)) refl e

  -- and for each of them it is refused
  is_told : (f : ScenarioFault) → Refused f → added (fresh limit (TooMany what) id_of items found) content put ≡ Err f
  is_told f (too_many full) = rw (le-leb limit (length items) full) refl
  is_told f (without_id g room h) = rw (lt-leb limit (length items) room, h) refl
  is_told f (same_id id room h one) = rw (lt-leb limit (length items) room, h, has_one id one) refl
  is_told f (in_content id g room h new k) = rw (lt-leb limit (length items) room, h, none_found id_of id items new, k) refl

refused_lanelet : (document : Document) (k : ℕ) (s : Contents) (f : ScenarioFault) → lanelet_step document k s ≡ Err f
    → IsItemRefused kind.Lanelet MAX_LANELETS (λ (l : Lanelet). l.id) s.lanelets (id_attribute document k wanted.Id) (λ id. lanelet document k id s.known_ids) f
unfolding lanelet_step new_id has_id
refused_lanelet document k s f e =
    refused_by kind.Lanelet MAX_LANELETS (λ (l : Lanelet). l.id) s.lanelets (id_attribute document k wanted.Id) (λ id. lanelet document k id s.known_ids) (λ l. record s { lanelets = s.lanelets ++ l ∷ [] }) f e

refused_obstacle : (document : Document) (k : ℕ) (s : Contents) (f : ScenarioFault) → obstacle_step document k s ≡ Err f
    → IsItemRefused kind.Obstacle MAX_OBSTACLES (λ (o : Obstacle). o.id) s.obstacles (id_attribute document k wanted.Id) (λ id. any_obstacle document k id) f
unfolding obstacle_step new_id has_id
refused_obstacle document k s f e =
    refused_by kind.Obstacle MAX_OBSTACLES (λ (o : Obstacle). o.id) s.obstacles (id_attribute document k wanted.Id) (λ id. any_obstacle document k id) (λ o. record s { obstacles = s.obstacles ++ o ∷ [] }) f e

refused_problem : (document : Document) (k : ℕ) (s : Contents) (f : ScenarioFault) → problem_step document k s ≡ Err f
    → IsItemRefused kind.Problem MAX_PROBLEMS (λ (p : Problem). p.id) s.problems (id_attribute document k wanted.Id) (λ id. problem document k id) f
unfolding problem_step new_id has_id
refused_problem document k s f e =
    refused_by kind.Problem MAX_PROBLEMS (λ (p : Problem). p.id) s.problems (id_attribute document k wanted.Id) (λ id. problem document k id) (λ p. record s { problems = s.problems ++ p ∷ [] }) f e

by_sort : (document : Document) (k : ℕ) (s : Contents) (f : ScenarioFault) → Sort s.version document k → content_step document k s ≡ Err f → IsRefused document k s f
by_sort document k s f (a_lanelet is other third same) e = as_lanelet is (refused_lanelet document k s f (sym (same s refl) ∙ e))
by_sort document k s f (an_obstacle other is third same) e = as_obstacle is (refused_obstacle document k s f (sym (same s refl) ∙ e))
by_sort document k s f (a_problem other third is same) e = as_problem is (refused_problem document k s f (sym (same s refl) ∙ e))
by_sort document k s f (another other third fourth same) e = let read = same s refl in absurd cc

-- what the definition refuses is refused for one of the reasons
pub refusal : (document : Document) (k : ℕ) (s : Contents) (f : ScenarioFault) → content_step document k s ≡ Err f → IsRefused document k s f
refusal document k s f e = by_sort document k s f (sort_of s.version document k) e

at_lanelet : (document : Document) (k : ℕ) (s : Contents) → Sort s.version document k → is_lanelet document k ≡ true → content_step document k s ≡ lanelet_step document k s
at_lanelet document k s (a_lanelet is other third same) h = same s refl
at_lanelet document k s (an_obstacle other is third same) h = absurd cc
at_lanelet document k s (a_problem other third is same) h = absurd cc
at_lanelet document k s (another other third fourth same) h = absurd cc

at_obstacle : (document : Document) (k : ℕ) (s : Contents) → Sort s.version document k → is_obstacle s.version document k ≡ true → content_step document k s ≡ obstacle_step document k s
at_obstacle document k s (a_lanelet is other third same) h = absurd cc
at_obstacle document k s (an_obstacle other is third same) h = same s refl
at_obstacle document k s (a_problem other third is same) h = absurd cc
at_obstacle document k s (another other third fourth same) h = absurd cc

at_problem : (document : Document) (k : ℕ) (s : Contents) → Sort s.version document k → is_problem document k ≡ true → content_step document k s ≡ problem_step document k s
at_problem document k s (a_lanelet is other third same) h = absurd cc
at_problem document k s (an_obstacle other is third same) h = absurd cc
at_problem document k s (a_problem other third is same) h = same s refl
at_problem document k s (another other third fourth same) h = absurd cc

lanelet_told : (document : Document) (k : ℕ) (s : Contents) (f : ScenarioFault)
    → IsItemRefused kind.Lanelet MAX_LANELETS (λ (l : Lanelet). l.id) s.lanelets (id_attribute document k wanted.Id) (λ id. lanelet document k id s.known_ids) f → lanelet_step document k s ≡ Err f
unfolding lanelet_step new_id has_id
lanelet_told document k s f h =
    is_told kind.Lanelet MAX_LANELETS (λ (l : Lanelet). l.id) s.lanelets (id_attribute document k wanted.Id) (λ id. lanelet document k id s.known_ids) (λ l. record s { lanelets = s.lanelets ++ l ∷ [] }) f h

obstacle_told : (document : Document) (k : ℕ) (s : Contents) (f : ScenarioFault)
    → IsItemRefused kind.Obstacle MAX_OBSTACLES (λ (o : Obstacle). o.id) s.obstacles (id_attribute document k wanted.Id) (λ id. any_obstacle document k id) f
    → obstacle_step document k s ≡ Err f
unfolding obstacle_step new_id has_id
obstacle_told document k s f h =
    is_told kind.Obstacle MAX_OBSTACLES (λ (o : Obstacle). o.id) s.obstacles (id_attribute document k wanted.Id) (λ id. any_obstacle document k id) (λ o. record s { obstacles = s.obstacles ++ o ∷ [] }) f h

problem_told : (document : Document) (k : ℕ) (s : Contents) (f : ScenarioFault)
    → IsItemRefused kind.Problem MAX_PROBLEMS (λ (p : Problem). p.id) s.problems (id_attribute document k wanted.Id) (λ id. problem document k id) f → problem_step document k s ≡ Err f
unfolding problem_step new_id has_id
problem_told document k s f h =
    is_told kind.Problem MAX_PROBLEMS (λ (p : Problem). p.id) s.problems (id_attribute document k wanted.Id) (λ id. problem document k id) (λ p. record s { problems = s.problems ++ p ∷ [] }) f h

-- what is refused for one of the reasons the definition refuses
pub is_refused : (document : Document) (k : ℕ) (s : Contents) (f : ScenarioFault) → IsRefused document k s f → content_step document k s ≡ Err f
is_refused document k s f (as_lanelet is h) = at_lanelet document k s (sort_of s.version document k) is ∙ lanelet_told document k s f h
is_refused document k s f (as_obstacle is h) = at_obstacle document k s (sort_of s.version document k) is ∙ obstacle_told document k s f h
is_refused document k s f (as_problem is h) = at_problem document k s (sort_of s.version document k) is ∙ problem_told document k s f h
