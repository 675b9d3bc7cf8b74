-- The first fault is the one that is told.
use Rattle.std.proofs.Common.{◌≡◌, ℕ, List, [], ◌∷◌, ◌++◌, ℤ, Some, Result, Ok, Err, refl, ap, sym, ◌∙◌, subst}
use Rattle.std.specs.Bool.{OnFalse}
use Rattle.std.specs.Result.{IfErr}
use Rattle.element_tree.specs.Document.{Document}
use Rattle.element_tree.specs.Trees.{children}
use Rattle.element_tree.proofs.ContentLaws.{bind_ok}
use Rattle.reading.specs.Reading.{Gives, read_all}
use Rattle.reading.proofs.ReadingLaws.{handed_on}
use Rattle.scenario_model.specs.declared.scenario.Scenario.{Scenario}
use Rattle.scenario_model.specs.declared.scenario.Version.{Version}
use Rattle.scenario_xml.specs.Faults.{is_memory}
use Rattle.scenario_xml.specs.ScenarioFaults.{ids_in, IsRead, IsChildFault, IsFirstUnknown, IsFirstFaultOf, in_root, in_child, in_region, in_whole, IsFirstFaultIn, in_markup, in_document, IsOnlyFaultIn}
use Rattle.scenario_xml.specs.ScenarioOf.{regions_of}
use Rattle.scenario_xml.specs.Scenarios.{content_step, contents, first_in, unknown_in_problem, checked_scenario, scenario_in, document_in, scenario}
use Rattle.scenario_xml.specs.declared.contents.Contents.{Contents}
use Rattle.scenario_xml.specs.declared.fault.ScenarioFault.{ScenarioFault}
use Rattle.scenario_xml.specs.declared.fault.ScenarioFault.TheVariants.{UnknownRef}
use Rattle.scenario_xml.proofs.KnownAll.{known_is}
use Rattle.scenario_xml.proofs.ReadOff.{nothing, reads_all}
use Rattle.scenario_xml.proofs.Refusals.{same_fault, is_refused}
use Rattle.scenario_xml.proofs.Regions.{found_of, unknown_found}

-- what is read of some children is read
reads : (document : Document) (version : Version) (ks : List ℕ) (s : Contents) → IsRead document version ks s → read_all (content_step document) ks (nothing document version) ≡ Ok s
reads document version ks s h =
    let P : Version → List ℕ → Type 0 = λ v known_ids. read_all (content_step document) ks (nothing document version) ≡ Ok (record { version = v; known_ids = known_ids; lanelets = s.lanelets; obstacles = s.obstacles; problems = s.problems }) in
    subst (λ (v : Version). P v s.known_ids) (sym h.same_version) (subst (P version) (sym h.known_ids) (reads_all document version ks s.lanelets s.obstacles s.problems h.items))

-- elements before a fault are read, and then it is told
stops_at : {S F : Type 0} (step : ℕ → S → Result S F) (before : List ℕ) (node : ℕ) (after : List ℕ) (s t : S) (f : F) → read_all step before s ≡ Ok t → step node t ≡ Err f
    → read_all step (before ++ node ∷ after) s ≡ Err f
unfolding read_all
stops_at step [] node after s t f e h =
    let same : s ≡ t = cc in
    rw (same, h) refl
stops_at step (k ∷ before) node after s t f e h =
    let first = bind_ok (step k s) (read_all step before) t e in
    rw first.1 (stops_at step before node after first.0 t f first.2 h)

children_read : (document : Document) (version : Version) (s : Contents) → IsRead document version (children document 0) s → contents document version ≡ Ok s
unfolding contents
children_read document version s h = rw (known_is document) (reads document version (children document 0) s h)

child_told : (document : Document) (version : Version) (f : ScenarioFault) → IsChildFault document version f → contents document version ≡ Err f
unfolding contents
child_told document version f w =
    rw (known_is document)
    (ap (λ (ks : List ℕ). read_all (content_step document) ks (nothing document version)) w.cut
    ∙ stops_at (content_step document) w.before w.node w.after (nothing document version) w.state f (reads document version w.before w.state w.fine) (is_refused document w.node w.state f w.refused))

region_told : (document : Document) (version : Version) (step : ℤ) (s : Contents) (id : ℕ) → IsRead document version (children document 0) s → IsFirstUnknown (ids_in document) (regions_of s.problems) id → checked_scenario step s ≡ Err (UnknownRef id)
unfolding checked_scenario
region_told document version step s id held w =
    let found : first_in (unknown_in_problem s.known_ids) s.problems ≡ Some id =
    found_of s.known_ids s.problems ∙ unknown_found s.known_ids (regions_of s.problems) id (subst (λ (ids : List ℕ). IsFirstUnknown ids (regions_of s.problems) id) (sym held.known_ids) w) in
    rw found refl

document_told : (document : Document) (f : ScenarioFault) → IsFirstFaultOf document f → scenario_in document ≡ Err f
unfolding scenario_in checked_scenario first_in
document_told document f (in_root g h) = rw h refl
document_told document f (in_child head g top w) = rw (top, child_told document head.version g w) refl
document_told document f (in_region head s id top held w) = rw (top, children_read document head.version s held) (region_told document head.version head.step_micros s id held w)
document_told document f (in_whole head s top held known_ids none) =
    rw (top, children_read document head.version s held, none) refl

told : (bytes : List ℕ) (f : ScenarioFault) → IsFirstFaultIn bytes f → scenario bytes ≡ Err f
unfolding scenario document_in
told bytes f (in_markup g h) = rw h refl
told bytes f (in_document nodes g h w) = rw h (document_told (record { source = bytes; nodes = nodes }) g w)

only_fault : (bytes : List ℕ) (f : ScenarioFault) → scenario bytes ≡ Err f → IsOnlyFaultIn bytes f
only_fault bytes f e = λ g w. same_fault (scenario bytes) g f (told bytes g w) e

pub only_fault_if_refused : (bytes : List ℕ) (r : Result Scenario ScenarioFault) → Gives is_memory (λ (s : Scenario). s) r (scenario bytes)
    → IfErr r (λ f. OnFalse (is_memory f) (IsOnlyFaultIn bytes f))
only_fault_if_refused bytes (Ok s) h = tt
only_fault_if_refused bytes (Err f) h = handed_on (is_memory f) (only_fault bytes f) h
