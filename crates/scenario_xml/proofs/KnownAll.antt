-- The ids that are known are those of all lanelets that have one.
use Rattle.std.proofs.Common.{◌≡◌, ℕ, Bool, true, false, List, [], ◌∷◌, ◌++◌, map, Result, Ok, Err, refl, ap, sym, ◌∙◌, append_assoc}
use Rattle.std.specs.List.{AllZip, filter, filter_map}
use Rattle.std.specs.Result.{result_ok}
use Rattle.std.proofs.lemmas.List.{append-nil}
use Rattle.element_tree.specs.Document.{Document}
use Rattle.element_tree.specs.Trees.{children}
use Rattle.reading.specs.Reading.{◌>>=◌, read_all}
use Rattle.scenario_model.specs.declared.lanelet.Lanelet.{Lanelet}
use Rattle.scenario_xml.specs.Elements.{id_attribute}
use Rattle.scenario_xml.specs.ScenarioFaults.{ids_in}
use Rattle.scenario_xml.specs.ScenarioOf.{is_lanelet, IsLaneletAt}
use Rattle.scenario_xml.specs.Scenarios.{id_or_none, id_step, known_ids}
use Rattle.scenario_xml.specs.declared.fault.ScenarioFault.{ScenarioFault}
use Rattle.scenario_xml.specs.declared.fault.Wanted.TheVariants as wanted

abbrev id_at : Document → ℕ → Result ℕ ScenarioFault
id_at document k = id_attribute document k wanted.Id

-- the ids of those among these elements that are lanelets with an id
abbrev ids_among : Document → List ℕ → List ℕ
ids_among document ks = filter_map (λ k. result_ok (id_at document k)) (filter (is_lanelet document) ks)

abbrev fine : List ℕ → Result (List ℕ) ScenarioFault
fine ids = Ok ids

with_id : (document : Document) (ks ids : List ℕ) (k : ℕ) (found : Result ℕ ScenarioFault) → id_at document k ≡ found
    → id_or_none (id_at document k) ids ++ ids_among document ks ≡ ids ++ filter_map (λ k. result_ok (id_at document k)) (k ∷ filter (is_lanelet document) ks)
with_id document ks ids k (Ok id) e = rw e (append_assoc ids (id ∷ []) (ids_among document ks))
with_id document ks ids k (Err f) e = rw e refl

first_known : (document : Document) (ks ids : List ℕ) (k : ℕ) (lane : Bool) → is_lanelet document k ≡ lane
    → ((more : List ℕ) → read_all (id_step document) ks more ≡ fine (more ++ ids_among document ks))
    → (id_step document k ids >>= read_all (id_step document) ks) ≡ fine (ids ++ ids_among document (k ∷ ks))
unfolding id_step is_lanelet
first_known document ks ids k true e again =
    rw e (again (id_or_none (id_at document k) ids) ∙ ap fine (with_id document ks ids k (id_at document k) refl))
first_known document ks ids k false e again = rw e (again ids)

known_among : (document : Document) (ks ids : List ℕ) → read_all (id_step document) ks ids ≡ fine (ids ++ ids_among document ks)
unfolding read_all
known_among document [] ids = ap fine (sym (append-nil ids))
known_among document (k ∷ ks) ids = first_known document ks ids k (is_lanelet document k) refl (known_among document ks)

pub known_is : (document : Document) → known_ids document ≡ Ok (ids_in document)
unfolding known_ids
known_is document = known_among document (children document 0) []

-- Where all lanelets are read, they are the ids of what was read.
ids_of_read : (document : Document) (ids ks : List ℕ) (ls : List Lanelet) → AllZip (IsLaneletAt document ids) ks ls → filter_map (λ k. result_ok (id_at document k)) ks ≡ map (λ (l : Lanelet). l.id) ls
ids_of_read document ids [] [] h = refl
ids_of_read document ids [] (l ∷ ls) h = absurd h
ids_of_read document ids (k ∷ ks) [] h = absurd h
ids_of_read document ids (k ∷ ks) (l ∷ ls) h = rw h.0.id (ap (λ (more : List ℕ). l.id ∷ more) (ids_of_read document ids ks ls h.1))

pub ids_are : (document : Document) (ids : List ℕ) (ls : List Lanelet) → AllZip (IsLaneletAt document ids) (filter (is_lanelet document) (children document 0)) ls → ids_in document ≡ map (λ (l : Lanelet). l.id) ls
ids_are document ids ls h = ids_of_read document ids (filter (is_lanelet document) (children document 0)) ls h
