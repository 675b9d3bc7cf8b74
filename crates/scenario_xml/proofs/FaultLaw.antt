-- A fault that is told is the first.
use Rattle.std.proofs.Common.{◌≡◌, ℕ, Bool, true, false, cond, eqb, List, [], ◌∷◌, length, Option, Some, None, Result, Ok, Err, refl, ap, sym, ◌∙◌, subst, arith}
use Rattle.std.specs.Bool.{OnFalse}
use Rattle.std.specs.List.{All}
use Rattle.std.specs.Result.{IfErr}
use Rattle.std.proofs.lemmas.Bool.{eqb-true}
use Rattle.element_tree.specs.declared.fault.MarkupFault.{MarkupFault}
use Rattle.element_tree.specs.declared.node.Node.{Node}
use Rattle.element_tree.specs.Document.{Document}
use Rattle.element_tree.specs.Documents.{markup}
use Rattle.element_tree.specs.Trees.{children}
use Rattle.reading.specs.Reading.{◌>>=◌, Gives, read_all, IsFirstFault}
use Rattle.reading.proofs.ReadingLaws.{handed_on}
use Rattle.scenario_model.specs.declared.scenario.Scenario.{Scenario}
use Rattle.scenario_model.specs.declared.scenario.Version.{Version}
use Rattle.scenario_xml.specs.Faults.{is_memory, from_markup}
use Rattle.scenario_xml.specs.ScenarioFaults.{ids_in, IsRead, IsChildFault, IsFirstUnknown, IsFirstFaultOf, in_root, in_child, in_region, in_whole, IsFirstFaultIn, in_markup, in_document}
use Rattle.scenario_xml.specs.ScenarioOf.{regions_of, IsRegionKnown}
use Rattle.scenario_xml.specs.Scenarios.{content_step, contents, root, first_in, unknown_in_problem, none_unknown, checked_scenario, scenario_in, shown, document_in, scenario}
use Rattle.scenario_xml.specs.declared.contents.Contents.{Contents}
use Rattle.scenario_xml.specs.declared.fault.ScenarioFault.{ScenarioFault}
use Rattle.scenario_xml.specs.declared.fault.ScenarioFault.TheVariants.{UnknownRef, NoProblem}
use Rattle.scenario_xml.specs.declared.root.Head.{Head}
use Rattle.reading.proofs.FirstFault.{first_fault, all_numbered}
use Rattle.scenario_xml.proofs.KnownAll.{known_is}
use Rattle.scenario_xml.proofs.ReadOff.{nothing, is_read}
use Rattle.scenario_xml.proofs.Refusals.{same_fault, refusal}
use Rattle.scenario_xml.proofs.Regions.{found_of, all_known, first_unknown}
use Rattle.scenario_xml.proofs.ScenarioLaw.{contents_are}

abbrev refused : {A : Type 0} {g f : ScenarioFault} → g ≡ f → ◌≡◌ {A = Result A ScenarioFault} (Err g) (Err f)
refused e = ap (λ (d : ScenarioFault). Err d) e

-- a child of the root that is refused
child_fault : (document : Document) (version : Version) (f : ScenarioFault) → contents document version ≡ Err f → IsChildFault document version f
unfolding contents
child_fault document version f e =
    let stop : read_all (content_step document) (children document 0) (nothing document version) ≡ Err f = rw (known_is document) at e in
    let told = all_numbered (content_step document) 0 (children document 0) (nothing document version) ∙ stop in
    let w : IsFirstFault (λ (_ : ℕ). content_step document) 0 (children document 0) (nothing document version) f =
    first_fault (λ (_ : ℕ). content_step document) 0 (children document 0) (nothing document version) f told in
    let fine : read_all (content_step document) w.before (nothing document version) ≡ Ok w.state =
    sym (all_numbered (content_step document) 0 w.before (nothing document version)) ∙ w.fine in
    record {
      before = w.before;
      node = w.item;
      after = w.after;
      state = w.state;
      cut = w.cut;
      fine = is_read document version w.before w.state fine;
      refused = refusal document w.item w.state f w.refused;
    }

empty_when : {X : Type 0} (xs : List X) → length xs ≡ 0 → xs ≡ []
empty_when [] e = refl
empty_when (x ∷ xs) e = absurd (omega arith)

no_problem : (document : Document) (head : Head) (s : Contents) (t : Scenario) (f : ScenarioFault) (none : Bool) → eqb (length s.problems) 0 ≡ none → root document ≡ Ok head → IsRead document head.version (children document 0) s
    → All (IsRegionKnown (ids_in document)) (regions_of s.problems) → cond none (Err NoProblem) (Ok t) ≡ Err f → IsFirstFaultOf document f
no_problem document head s t f true h top held known_ids e =
    subst (λ (g : ScenarioFault). IsFirstFaultOf document g) (same_fault {A = Scenario} (Err NoProblem) NoProblem f refl e)
    (in_whole head s top held known_ids (empty_when s.problems (eqb-true (length s.problems) 0 h)))
no_problem document head s t f false h top held known_ids e = absurd cc

whole_fault : (document : Document) (head : Head) (s : Contents) (f : ScenarioFault) (o : Option ℕ) → first_in (unknown_in_problem s.known_ids) s.problems ≡ o → root document ≡ Ok head → IsRead document head.version (children document 0) s
    → none_unknown head.step_micros s o ≡ Err f → IsFirstFaultOf document f
whole_fault document head s f (Some id) h top held e =
    let w = first_unknown s.known_ids (regions_of s.problems) id (sym (found_of s.known_ids s.problems) ∙ h) in
    subst (λ (g : ScenarioFault). IsFirstFaultOf document g) (same_fault {A = Scenario} (Err (UnknownRef id)) (UnknownRef id) f refl e)
    (in_region head s id top held (subst (λ (ids : List ℕ). IsFirstUnknown ids (regions_of s.problems) id) held.known_ids w))
whole_fault document head s f None h top held e =
    let all = all_known s.known_ids (regions_of s.problems) (sym (found_of s.known_ids s.problems) ∙ h) in
    let known_ids = subst (λ (ids : List ℕ). All (IsRegionKnown ids) (regions_of s.problems)) held.known_ids all in
    no_problem document head s _ f (eqb (length s.problems) 0) refl top held known_ids e

contents_fault : (document : Document) (head : Head) (f : ScenarioFault) (r : Result Contents ScenarioFault) → contents document head.version ≡ r → root document ≡ Ok head → (r >>= checked_scenario head.step_micros) ≡ Err f → IsFirstFaultOf document f
unfolding checked_scenario
contents_fault document head f (Ok s) h top e = whole_fault document head s f (first_in (unknown_in_problem s.known_ids) s.problems) refl top (contents_are document head.version s h) e
contents_fault document head f (Err g) h top e = in_child head f top (child_fault document head.version f (h ∙ refused {A = Contents} (same_fault {A = Scenario} (Err g) g f refl e)))

root_fault : (document : Document) (f : ScenarioFault) (r : Result Head ScenarioFault) → root document ≡ r → (r >>= λ head. contents document head.version >>= checked_scenario head.step_micros) ≡ Err f → IsFirstFaultOf document f
root_fault document f (Ok head) h e = contents_fault document head f (contents document head.version) refl h e
root_fault document f (Err g) h e = in_root f (h ∙ refused {A = Head} (same_fault {A = Scenario} (Err g) g f refl e))

document_fault : (document : Document) (f : ScenarioFault) → scenario_in document ≡ Err f → IsFirstFaultOf document f
unfolding scenario_in
document_fault document f e = root_fault document f (root document) refl e

markup_case : (bytes : List ℕ) (f : ScenarioFault) (r : Result (List Node) MarkupFault) → markup bytes ≡ r → (shown bytes r >>= scenario_in) ≡ Err f → IsFirstFaultIn bytes f
markup_case bytes f (Ok nodes) h e = in_document nodes f h (document_fault (record { source = bytes; nodes = nodes }) f e)
markup_case bytes f (Err g) h e =
    subst (λ (d : ScenarioFault). IsFirstFaultIn bytes d) (same_fault {A = Scenario} (Err (from_markup g)) (from_markup g) f refl e) (in_markup g h)

pub fault_first : (bytes : List ℕ) (f : ScenarioFault) → scenario bytes ≡ Err f → IsFirstFaultIn bytes f
unfolding scenario document_in
fault_first bytes f e = markup_case bytes f (markup bytes) refl e

pub first_if_refused : (bytes : List ℕ) (r : Result Scenario ScenarioFault) → Gives is_memory (λ (s : Scenario). s) r (scenario bytes)
    → IfErr r (λ f. OnFalse (is_memory f) (IsFirstFaultIn bytes f))
first_if_refused bytes (Ok s) h = tt
first_if_refused bytes (Err f) h = handed_on (is_memory f) (fault_first bytes f) h
