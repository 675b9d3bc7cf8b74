-- What has been added of a maneuver's steps.
use Rattle.std.proofs.Common.{◌≡◌, ℕ, suc, ◌+◌, ◌-◌, ◌*◌, ◌^◌, ◌<◌, ◌≤◌, List, [], ◌∷◌, ◌++◌, length, map, take, get_or, refl, sym, ap, ◌∙◌, subst, arith}
use Rattle.std.specs.List.{range_with_len}
use Rattle.std.proofs.lemmas.List.{take_more}
use Rattle.std.proofs.lemmas.List.Elements.{All-weaker}
use Rattle.std.proofs.lemmas.List.FromFn.{get_or-map-range_with_len}
use Rattle.rulebook_order.specs.StepGraph.{HasRoom}
use Rattle.rulebook_order.specs.Sums.{sums}
use Rattle.rulebook_order.specs.laws.SumLaws.{length-sums}
use Rattle.violation_measures.specs.Binding.{IsBoundTo}
use Rattle.violation_measures.specs.Sources.{Features}
use Rattle.violation_measures.specs.Vectors.{width, step_vector, run}
use Rattle.violation_measures.specs.declared.bound.Bound.{Bound}
use Rattle.violation_measures.specs.declared.amount.TheConstants.{MAX_AMOUNT}
use Rattle.violation_measures.specs.declared.step.Step.{Step}
use Rattle.violation_measures.proofs.VectorLaws.{run_one, run_more, step_up_to}
use Rattle.maneuver_lattice.specs.Driving.{step_at, steps_of}
use Rattle.maneuver_lattice.specs.Scenes.{Scene, chosen}
use Rattle.maneuver_lattice.specs.declared.state.LatticeState.{LatticeState}
use Rattle.maneuver_lattice.proofs.RunsOf.{sums-assoc, adds_no_steps, room_after}

-- the first j steps are added, and there is room for the others
pub record HasAdded (f : Features) (bound : Bound) (steps : List Step) (first now : List ℕ) (j : ℕ) : Type 0 where
  pub width_is : length now ≡ width bound
  pub cost : now ≡ sums first (run f bound (take j steps))
  pub room : HasRoom (MAX_AMOUNT * (length steps - j)) now

module _ (f : Features) (bound : Bound) (bound_to : IsBoundTo f bound) (steps : List Step) (first : List ℕ) where
  pub none_added : length first ≡ width bound → HasRoom (MAX_AMOUNT * length steps) first → HasAdded f bound steps first first 0
  none_added long room =
      let all : MAX_AMOUNT * length steps ≡ MAX_AMOUNT * (length steps - 0) = omega arith in
      record { width_is = long; cost = sym (adds_no_steps f bound first long); room = subst (λ (n : ℕ). HasRoom n first) all room }

  -- there is room for one more
  pub room_for_one : (now : List ℕ) (j : ℕ) → j < length steps → HasAdded f bound steps first now j → HasRoom MAX_AMOUNT now
  room_for_one now j lt h = All-weaker (λ x. x + MAX_AMOUNT * (length steps - j) < 2 ^ 64) (λ x. x + MAX_AMOUNT < 2 ^ 64) (λ x here. omega arith) now h.room

  pub one_added : (now : List ℕ) (j : ℕ) (step : Step) → j < length steps → get_or steps j step ≡ step → HasAdded f bound steps first now j → HasAdded f bound steps first (sums now (step_vector f bound step)) (j + 1)
  one_added now j step lt here h =
      let up = step_up_to f bound step bound_to in
      let more : take (j + 1) steps ≡ take j steps ++ step ∷ [] = take_more steps j step lt ∙ ap (λ (s : Step). take j steps ++ s ∷ []) here in
      let all : run f bound (take (j + 1) steps) ≡ sums (run f bound (take j steps)) (step_vector f bound step) =
      ap (run f bound) more ∙ run_more f bound (take j steps) (step ∷ []) ∙ ap (sums (run f bound (take j steps))) (run_one f bound step) in
      let split : MAX_AMOUNT * (length steps - j) ≡ MAX_AMOUNT * (length steps - (j + 1)) + MAX_AMOUNT = omega arith in
      record {
        width_is = length-sums now (step_vector f bound step) (h.width_is ∙ sym up.width) ∙ h.width_is;
        cost = ap (λ (v : List ℕ). sums v (step_vector f bound step)) h.cost ∙ sums-assoc first (run f bound (take j steps)) (step_vector f bound step) ∙ ap (sums first) (sym all);
        room = room_after (MAX_AMOUNT * (length steps - (j + 1))) MAX_AMOUNT now (step_vector f bound step) up.up_to (subst (λ (n : ℕ). HasRoom n now) split h.room);
      }

-- step j + 1 of a maneuver stands at place j
pub step_there : (scene : Scene) (state : LatticeState) (choice j : ℕ) (d : Step) → j < length (chosen scene state choice).steps → get_or (steps_of scene state choice) j d ≡ step_at scene state choice (j + 1)
step_there scene state choice j d lt = get_or-map-range_with_len (step_at scene state choice) 1 (length (chosen scene state choice).steps) j (j + 1) d lt (let e : 1 + j ≡ j + 1 = omega arith in e)
