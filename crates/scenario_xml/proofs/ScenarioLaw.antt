-- What is read of some bytes is their scenario, and what is refused has none.
use Rattle.std.proofs.Common.{◌≡◌, ℕ, ◌≤◌, Bool, true, false, eqb, List, length, ℤ, Option, Some, None, Result, Ok, Err, refl, ap, sym, ◌∙◌, subst, arith}
use Rattle.std.specs.Prelude.{codes}
use Rattle.std.specs.Bool.{OnFalse}
use Rattle.std.specs.List.{All}
use Rattle.std.specs.Result.{IfOk, IfErr}
use Rattle.std.specs.Str.{bytes_eq}
use Rattle.std.proofs.lemmas.Bool.{eqb-false, ne_eqb}
use Rattle.std.proofs.lemmas.Slice.Eq.{bytes_eq-Decides}
use Rattle.element_tree.specs.declared.fault.MarkupFault.{MarkupFault}
use Rattle.element_tree.specs.declared.node.Node.{Node}
use Rattle.element_tree.specs.Document.{Document}
use Rattle.element_tree.specs.Documents.{markup}
use Rattle.element_tree.specs.Tags.{value_of}
use Rattle.element_tree.specs.Trees.{name_of, attributes_of, children}
use Rattle.element_tree.proofs.ContentLaws.{bind_ok, else_ok, then_ok, same_value, not_both}
use Rattle.reading.specs.Reading.{◌>>=◌, Gives}
use Rattle.scenario_model.specs.Scenario.{lanelet_ids}
use Rattle.scenario_model.specs.declared.scenario.Scenario.{Scenario}
use Rattle.scenario_model.specs.declared.scenario.Version.{Version}
use Rattle.scenario_model.specs.declared.scenario.Version.TheVariants.{V2020a, V2018b}
use Rattle.scenario_xml.specs.Elements.{place, or_missing, wanted_attribute}
use Rattle.scenario_xml.specs.Faults.{is_memory}
use Rattle.scenario_xml.specs.ScenarioFaults.{ids_in, IsRead}
use Rattle.scenario_xml.specs.ScenarioOf.{AreReadOff, regions_of, IsRegionKnown, IsScenarioOf, IsScenarioIn, IsOnlyScenarioIn, IsNoScenario}
use Rattle.scenario_xml.specs.Scenarios.{known_ids, contents, tick_length, head_in, root, first_in, unknown_in_problem, none_unknown, checked_scenario, scenario_in, shown, document_in, scenario}
use Rattle.scenario_xml.specs.Versions.{version_text, version_in}
use Rattle.scenario_xml.specs.declared.contents.Contents.{Contents}
use Rattle.scenario_xml.specs.declared.fault.ScenarioFault.{ScenarioFault}
use Rattle.scenario_xml.specs.declared.fault.ScenarioFault.TheVariants.{WrongRoot, NoProblem}
use Rattle.scenario_xml.specs.declared.fault.Wanted.{Wanted}
use Rattle.scenario_xml.specs.declared.fault.Wanted.TheVariants as wanted
use Rattle.scenario_xml.specs.declared.root.Head.{Head}
use Rattle.scenario_xml.proofs.KnownAll.{known_is, ids_are}
use Rattle.scenario_xml.proofs.ReadOff.{is_read, reads_all}
use Rattle.scenario_xml.proofs.Regions.{found_of, all_known, none_unknown as none_found}

-- the root of a document that is read
pub record IsRoot (document : Document) (head : Head) : Type 0 where
  pub name : name_of document 0 ≡ codes "commonRoad"
  pub version : value_of (codes "commonRoadVersion") (attributes_of document 0) ≡ Some (version_text head.version)
  pub tick : tick_length document ≡ Ok head.step_micros

-- the version that a text is, is written so
version_case : (text : List ℕ) (version : Version) (a b : Bool) → bytes_eq text (codes "2020a") ≡ a → bytes_eq text (codes "2018b") ≡ b → version_in text ≡ Ok version → text ≡ version_text version
unfolding version_in
version_case text V2020a true b e f h = (bytes_eq-Decides text (codes "2020a")).0 e
version_case text V2018b true b e f h = absurd cc
version_case text V2020a false true e f h = absurd cc
version_case text V2018b false true e f h = (bytes_eq-Decides text (codes "2018b")).0 f
version_case text version false false e f h = absurd cc

version_is : (text : List ℕ) (version : Version) → version_in text ≡ Ok version → text ≡ version_text version
version_is text version e = version_case text version (bytes_eq text (codes "2020a")) (bytes_eq text (codes "2018b")) refl refl e

version_reads : (version : Version) → version_in (version_text version) ≡ Ok version
unfolding version_in
version_reads V2020a = refl
version_reads V2018b = refl

there : {X : Type 0} (what : Wanted) (at : ℕ) (o : Option X) (x : X) → or_missing what at o ≡ Ok x → o ≡ Some x
there what at None x e = absurd cc
there what at (Some y) x e = cc

root_is : (document : Document) (head : Head) → root document ≡ Ok head → IsRoot document head
unfolding root wanted_attribute
root_is document head e =
    let named = then_ok (bytes_eq (name_of document 0) (codes "commonRoad")) WrongRoot _ head e in
    let text = bind_ok (wanted_attribute document 0 wanted.CommonRoadVersion) _ head named.1 in
    let version = bind_ok (version_in text.0) (head_in document) head text.2 in
    let step = bind_ok (tick_length document) _ head version.2 in
    let found = there wanted.CommonRoadVersion (place document 0) (value_of (codes "commonRoadVersion") (attributes_of document 0)) text.0 text.1 in
    let head_read : Head = record { version = version.0; step_micros = step.0 } in
    subst (λ (h : Head). IsRoot document h) (same_value (Ok head_read) head_read head refl step.2) (record {
      name = (bytes_eq-Decides (name_of document 0) (codes "commonRoad")).0 named.0;
      version = found ∙ ap (λ (v : List ℕ). Some v) (version_is text.0 version.0 version.1);
      tick = step.1;
    })

root_reads : (document : Document) (head : Head) → IsRoot document head → root document ≡ Ok head
unfolding root wanted_attribute
root_reads document head h =
    let named : bytes_eq (name_of document 0) (codes "commonRoad") ≡ true = (bytes_eq-Decides (name_of document 0) (codes "commonRoad")).1 h.name in
    let step : tick_length document ≡ Ok head.step_micros = h.tick in
    rw (named, h.version, version_reads head.version, step) refl

-- all children of the root
pub contents_are : (document : Document) (version : Version) (s : Contents) → contents document version ≡ Ok s → IsRead document version (children document 0) s
unfolding contents
contents_are document version s e =
    let ids = bind_ok (known_ids document) _ s e in
    let same = same_value (known_ids document) ids.0 (ids_in document) ids.1 (known_is document) in
    is_read document version (children document 0) s (rw same at ids.2)

abbrev head_of : Scenario → Head
head_of s = record { version = s.version; step_micros = s.step_micros }

contents_read : (document : Document) (s : Scenario) → AreReadOff s.version document (ids_in document) (children document 0) s.lanelets s.obstacles s.problems
    → contents document s.version ≡ Ok (record { version = s.version; known_ids = ids_in document; lanelets = s.lanelets; obstacles = s.obstacles; problems = s.problems })
unfolding contents
contents_read document s h = rw (known_is document) (reads_all document s.version (children document 0) s.lanelets s.obstacles s.problems h)

abbrev scenario_of : ℤ → Contents → Scenario
scenario_of step s = record { version = s.version; step_micros = step; lanelets = s.lanelets; obstacles = s.obstacles; problems = s.problems }

-- the whole
record IsWhole (step : ℤ) (s : Contents) (t : Scenario) : Type 0 where
  pub regions_known : All (IsRegionKnown s.known_ids) (regions_of s.problems)
  pub some : 1 ≤ length s.problems
  pub is : t ≡ scenario_of step s

whole_case : (step : ℤ) (s : Contents) (t : Scenario) (o : Option ℕ) → first_in (unknown_in_problem s.known_ids) s.problems ≡ o → none_unknown step s o ≡ Ok t → IsWhole step s t
whole_case step s t (Some id) h e = absurd cc
whole_case step s t None h e =
    let k = else_ok (eqb (length s.problems) 0) NoProblem _ t e in
    let filled = eqb-false (length s.problems) 0 k.0 in
    record { regions_known = all_known s.known_ids (regions_of s.problems) (sym (found_of s.known_ids s.problems) ∙ h); some = omega (arith, filled); is = sym (same_value _ _ t refl k.1) }

whole_is : (step : ℤ) (s : Contents) (t : Scenario) → checked_scenario step s ≡ Ok t → IsWhole step s t
unfolding checked_scenario
whole_is step s t e = whole_case step s t (first_in (unknown_in_problem s.known_ids) s.problems) refl e

whole_reads : (step : ℤ) (s : Contents) → All (IsRegionKnown s.known_ids) (regions_of s.problems) → 1 ≤ length s.problems → checked_scenario step s ≡ Ok (scenario_of step s)
unfolding checked_scenario
whole_reads step s h some =
    let none = found_of s.known_ids s.problems ∙ none_found s.known_ids (regions_of s.problems) h in
    rw (none, ne_eqb (length s.problems) 0 (λ e. absurd (omega (arith, e, some)))) refl

-- the scenario of a document
document_read : (document : Document) (t : Scenario) → scenario_in document ≡ Ok t → IsScenarioOf document t
unfolding scenario_in
document_read document t e =
    let top = bind_ok (root document) _ t e in
    let held = bind_ok (contents document top.0.version) (checked_scenario top.0.step_micros) t top.2 in
    let s = held.0 in
    let items = contents_are document top.0.version s held.1 in
    let head = root_is document top.0 top.1 in
    let read = subst (λ (v : Version). AreReadOff v document (ids_in document) (children document 0) s.lanelets s.obstacles s.problems) (sym items.same_version) items.items in
    let all = whole_is top.0.step_micros s t held.2 in
    let ids = ids_are document (ids_in document) s.lanelets items.items.lanelets.read in
    let told = items.known_ids ∙ ids in
    let P : Scenario → Type 0 = λ u. IsScenarioOf document u in
    subst P (sym all.is) (record {
      root = head.name;
      version = subst (λ (v : Version). value_of (codes "commonRoadVersion") (attributes_of document 0) ≡ Some (version_text v)) (sym items.same_version) head.version;
      step = head.tick;
      children = rw ids at read;
      some = all.some;
      regions_known = rw told at all.regions_known;
    })

document_reads : (document : Document) (t : Scenario) → IsScenarioOf document t → scenario_in document ≡ Ok t
unfolding scenario_in
document_reads document t h =
    let ids : ids_in document ≡ lanelet_ids t = ids_are document (lanelet_ids t) t.lanelets h.children.lanelets.read in
    let s : Contents = record { version = t.version; known_ids = ids_in document; lanelets = t.lanelets; obstacles = t.obstacles; problems = t.problems } in
    let head = root_reads document (head_of t) (record { name = h.root; version = h.version; tick = h.step }) in
    let held = contents_read document t (subst (λ (known_ids : List ℕ). AreReadOff t.version document known_ids (children document 0) t.lanelets t.obstacles t.problems) (sym ids) h.children) in
    let all = whole_reads t.step_micros s (subst (λ (known_ids : List ℕ). All (IsRegionKnown known_ids) (regions_of t.problems)) (sym ids) h.regions_known) h.some in
    rw (head, held) all

shown_is : (bytes : List ℕ) (r : Result (List Node) MarkupFault) (document : Document) → shown bytes r ≡ Ok document → (nodes : List Node) × (r ≡ Ok nodes) × (document ≡ record { source = bytes; nodes = nodes })
shown_is bytes (Ok nodes) document e = (nodes, refl, sym (same_value {F = ScenarioFault} (Ok (record { source = bytes; nodes = nodes })) _ document refl e))
shown_is bytes (Err f) document e = absurd cc

pub scenario_read : (bytes : List ℕ) (s : Scenario) → scenario bytes ≡ Ok s → IsScenarioIn bytes s
unfolding scenario document_in
scenario_read bytes s e =
    let tree = bind_ok (document_in bytes) scenario_in s e in
    let nodes = shown_is bytes (markup bytes) tree.0 tree.1 in
    record { nodes = nodes.0; document = nodes.1; scenario = subst (λ (document : Document). IsScenarioOf document s) nodes.2 (document_read tree.0 s tree.2) }

pub scenario_accepted : (bytes : List ℕ) (s : Scenario) → IsScenarioIn bytes s → scenario bytes ≡ Ok s
unfolding scenario document_in
scenario_accepted bytes s h = rw h.document (document_reads (record { source = bytes; nodes = h.nodes }) s h.scenario)

no_scenario : (bytes : List ℕ) (f : ScenarioFault) (b : Bool) → OnFalse b (scenario bytes ≡ Err f) → OnFalse b (IsNoScenario bytes)
no_scenario bytes f true h = tt
no_scenario bytes f false h = λ s w. not_both (scenario bytes) s f (scenario_accepted bytes s w) h

pub read_if_ok : (bytes : List ℕ) (r : Result Scenario ScenarioFault) → Gives is_memory (λ (s : Scenario). s) r (scenario bytes) → IfOk r (IsScenarioIn bytes)
read_if_ok bytes (Ok s) h = scenario_read bytes s h
read_if_ok bytes (Err f) h = tt

pub only_if_ok : (bytes : List ℕ) (r : Result Scenario ScenarioFault) → Gives is_memory (λ (s : Scenario). s) r (scenario bytes) → IfOk r (IsOnlyScenarioIn bytes)
only_if_ok bytes (Ok s) h = λ other w. same_value (scenario bytes) other s (scenario_accepted bytes other w) h
only_if_ok bytes (Err f) h = tt

pub none_if_refused : (bytes : List ℕ) (r : Result Scenario ScenarioFault) → Gives is_memory (λ (s : Scenario). s) r (scenario bytes)
    → IfErr r (λ f. OnFalse (is_memory f) (IsNoScenario bytes))
none_if_refused bytes (Ok s) h = tt
none_if_refused bytes (Err f) h = no_scenario bytes f (is_memory f) h
