-- Where the first lanelet with an id stands.
use Rattle.std.proofs.Common.{◌≡◌, ℕ, ◌<◌, Bool, true, false, cond, List, [], ◌∷◌, map, length, get_or, refl, sym, ap, ◌∙◌, arith, inl, inr, None, Some}
use Rattle.std.specs.Prelude.{slice_index}
use Rattle.std.specs.List.{position, position_or_len}
use Rattle.std.proofs.lemmas.Bool.{ltb-false, cases_lt}
use Rattle.std.proofs.lemmas.Bool.Decides.{nat_tests}
use Rattle.std.proofs.lemmas.List.{get_or-map, get_or_default, length-map}
use Rattle.std.proofs.lemmas.List.Quantifiers.{position-Some}
use Rattle.std.proofs.lemmas.List.Sums.{fails_before_first}
use Rattle.scenario_model.specs.Scenario.{IsKnown, HaveDifferentIds}
use Rattle.scenario_model.specs.declared.lanelet.Lanelet.{Lanelet}
use Rattle.lanelet_network.specs.Lanes.{Lane, lane_of, lane_ids, has_id, HaveOwnIds, IsOfLanelet}

abbrev pub nowhere : Lane
nowhere = record { id = 0; left = []; corners = []; successors = [] }

has_the_id : (lane : Lane) (id : ℕ) → has_id id lane ≡ true → lane.id ≡ id
has_the_id lane id e = grind (arith, nat_tests)

id_differs : (lane : Lane) (id : ℕ) → has_id id lane ≡ false → lane.id ≡ id → ⊥
id_differs lane id e same = grind (arith, nat_tests)

pub record IsPlaceOf (lanes : List Lane) (id place : ℕ) : Type 0 where
  pub within : place < length lanes
  pub same : slice_index (lane_ids lanes) place ≡ id

pub place_of_known : (lanes : List Lane) (id place : ℕ) → position (has_id id) lanes ≡ Some place → IsPlaceOf lanes id place
place_of_known lanes id place e =
    let found = position-Some (has_id id) lanes place nowhere e in
    record {
      within = found.0;
      same = get_or-map (λ (lane : Lane). lane.id) lanes place nowhere 0 found.0 ∙ has_the_id (get_or lanes place nowhere) id found.1;
    }

refused : (b : Bool) (n : ℕ) → cond b (Some n) None ≡ None → b ≡ false
refused true n e = absurd cc
refused false n e = refl

pub not_known : (lanes : List Lane) (id : ℕ) → position (has_id id) lanes ≡ None → ¬ (IsKnown (lane_ids lanes) id)
not_known lanes id e = λ known.
    let far = ltb-false (position_or_len (has_id id) lanes) (length lanes) (refused _ (position_or_len (has_id id) lanes) e) in
    let within : known.0 < length lanes = omega (arith, known.2, length-map lanes (λ (lane : Lane). lane.id)) in
    let fails = fails_before_first (has_id id) lanes known.0 nowhere (omega (arith, far, within)) in
    id_differs (get_or lanes known.0 nowhere) id fails (sym (get_or-map (λ (lane : Lane). lane.id) lanes known.0 nowhere known.1 within) ∙ known.3 ∙ known.4)

pub ids_kept : (lanelets : List Lanelet) → lane_ids (map lane_of lanelets) ≡ map (λ (l : Lanelet). l.id) lanelets
ids_kept [] = refl
ids_kept (first ∷ rest) = ap (λ ids. first.id ∷ ids) (ids_kept rest)

id_at_place : (lanes : List Lane) (id place : ℕ) (d : Lane) → place < length lanes → slice_index (lane_ids lanes) place ≡ id → (get_or lanes place d).id ≡ id
id_at_place lanes id place d within same = sym (get_or-map (λ (lane : Lane). lane.id) lanes place d 0 within) ∙ same

pub only_one : (lanes : List Lane) (id place : ℕ) (lane : Lane) → HaveOwnIds lanes → place < length lanes → slice_index (lane_ids lanes) place ≡ id → lane ≡ get_or lanes place lane → IsOfLanelet lanes id (λ other. other ≡ lane)
only_one lanes id place lane different within same is = record {
  known_id = (place, id, omega (arith, within, length-map lanes (λ (l : Lane). l.id)), get_or-map (λ (l : Lane). l.id) lanes place nowhere id within ∙ id_at_place lanes id place nowhere within same, refl);
  each = λ k d below other.
      elim (cases_lt k place) [
        | inl before ↦ absurd (different k place d before within (other ∙ sym (id_at_place lanes id place d within same)))
        | inr later ↦ elim (cases_lt place k) [
          | inl after ↦ absurd (different place k d after below (id_at_place lanes id place d within same ∙ sym other))
          | inr sooner ↦ let here : k ≡ place = omega (arith, later, sooner) in ap (λ n. get_or lanes n d) here ∙ get_or_default lanes place d lane within ∙ sym is
        ]
      ];
}

no_lanelet : Lanelet
no_lanelet = record { id = 0; left = []; right = []; predecessors = []; successors = []; adjacent_left = None; adjacent_right = None }

pub different_lanes : (lanelets : List Lanelet) → HaveDifferentIds (λ (l : Lanelet). l.id) lanelets → HaveOwnIds (map lane_of lanelets)
different_lanes lanelets different = λ i j d before within same.
    let last : j < length lanelets = omega (arith, within, length-map lanelets lane_of) in
    let first : i < length lanelets = omega (arith, before, last) in
    let at_first = ap (λ (l : Lane). l.id) (get_or-map lane_of lanelets i no_lanelet d first) in
    let at_last = ap (λ (l : Lane). l.id) (get_or-map lane_of lanelets j no_lanelet d last) in
    different i j no_lanelet before last (sym at_first ∙ same ∙ at_last)
