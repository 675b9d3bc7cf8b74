-- A graph of five places that is written as a table.
use Rattle.std.specs.Prelude.{◌≡◌, ℕ, ◌-◌, ◌*◌, ◌^◌, ◌<◌, ◌≤◌, Bool, true, false, List, [], ◌∷◌}
use Rattle.std.specs.Prelude.{length, All, refl}
use Rattle.std.proofs.Common.{zero, suc, arith}
use Rattle.rulebook_order.specs.Graph.{Graph}
use Rattle.rulebook_order.specs.StepGraph.{IsStepGraph, AddsUpTo, ticks_passed}
use Rattle.search_trials.specs.Pairs.{two}
use Rattle.search_trials.specs.contracts.place.PlacePartialEq.TheImpl as place_eq
use Rattle.search_trials.specs.declared.place.Place.{Place}
use Rattle.search_trials.specs.declared.place.Place.TheVariants.{Start, Left, Right, End, Yard}

abbrev pub choices_at : Place → ℕ
choices_at Start = 3
choices_at Left = 2
choices_at Right = 1
choices_at End = 0
choices_at Yard = 0

-- where each choice leads: Start to Left, Right, Left; Left to End, Yard; Right to End
abbrev pub next_at : Place → ℕ → Place
next_at Start zero = Left
next_at Start (suc zero) = Right
next_at Start (suc (suc c)) = Left
next_at Left zero = End
next_at Left (suc c) = Yard
next_at Right c = End
next_at End c = End
next_at Yard c = Yard

-- and what it adds
abbrev pub cost_at : Place → ℕ → List ℕ
cost_at Start zero = 1 ∷ 0 ∷ []
cost_at Start (suc zero) = 0 ∷ 1 ∷ []
cost_at Start (suc (suc c)) = 0 ∷ 2 ∷ []
cost_at Left zero = 1 ∷ 0 ∷ []
cost_at Left (suc c) = 0 ∷ 0 ∷ []
cost_at Right c = 1 ∷ 1 ∷ []
cost_at End c = 0 ∷ 0 ∷ []
cost_at Yard c = 0 ∷ 0 ∷ []

abbrev pub finish_at : Place → List ℕ
finish_at Start = 0 ∷ 3 ∷ []
finish_at Yard = 1 ∷ 0 ∷ []
finish_at _ = 0 ∷ 0 ∷ []

abbrev pub goal_at : Place → Bool
goal_at Left = false
goal_at Right = false
goal_at _ = true

abbrev pub tick_at : Place → ℕ
tick_at Start = 0
tick_at Left = 1
tick_at Right = 1
tick_at End = 2
tick_at Yard = 2

abbrev pub table : Graph Place
table = record {
  width = 2;
  last = 2;
  step_limit = 3;
  start = Start;
  first = 0 ∷ 0 ∷ [];
  choices = choices_at;
  next = next_at;
  cost = cost_at;
  finish = finish_at;
  goal = goal_at;
  tick = tick_at;
}

few : (s : Place) → choices_at s < 2 ^ 32
few Start = omega arith
few Left = omega arith
few Right = omega arith
few End = omega arith
few Yard = omega arith

rises : (s : Place) (c : ℕ) → c < choices_at s → tick_at s < tick_at (next_at s c)
rises Start zero h = omega arith
rises Start (suc zero) h = omega arith
rises Start (suc (suc c)) h = omega arith
rises Left zero h = omega arith
rises Left (suc c) h = omega arith
rises Right c h = omega arith
rises End c h = absurd (omega arith)
rises Yard c h = absurd (omega arith)

high : (s : Place) → tick_at s ≤ 2
high Start = omega arith
high Left = omega arith
high Right = omega arith
high End = omega arith
high Yard = omega arith

adds : (a b : ℕ) → a ≤ 3 → b ≤ 3 → AddsUpTo table 3 (a ∷ b ∷ [])
adds a b h k = record { width = refl; up_to = two 3 a b h k }

adds_at : (s : Place) (c : ℕ) → c < choices_at s
    → AddsUpTo table (3 * ticks_passed table s c) (cost_at s c)
adds_at Start zero h = adds 1 0 (omega arith) (omega arith)
adds_at Start (suc zero) h = adds 0 1 (omega arith) (omega arith)
adds_at Start (suc (suc c)) h = adds 0 2 (omega arith) (omega arith)
adds_at Left zero h = adds 1 0 (omega arith) (omega arith)
adds_at Left (suc c) h = adds 0 0 (omega arith) (omega arith)
adds_at Right c h = adds 1 1 (omega arith) (omega arith)
adds_at End c h = absurd (omega arith)
adds_at Yard c h = absurd (omega arith)

finishes : (s : Place) → AddsUpTo table 3 (finish_at s)
finishes Start = adds 0 3 (omega arith) (omega arith)
finishes Left = adds 0 0 (omega arith) (omega arith)
finishes Right = adds 0 0 (omega arith) (omega arith)
finishes End = adds 0 0 (omega arith) (omega arith)
finishes Yard = adds 1 0 (omega arith) (omega arith)

pub table-laws : IsStepGraph table
table-laws = record {
  width = (omega arith, omega arith);
  choices = λ s r. few s;
  start_tick = refl;
  tick_rises = λ s c r h. rises s c h;
  tick_high = λ s r. high s;
  first = adds 0 0 (omega arith) (omega arith);
  cost = λ s c r h. adds_at s c h;
  finish = λ s r. finishes s;
  sums_fit = omega arith;
}

pub same_place : (s t : Place) → (place_eq.ghosts).eq s t ≡ true → s ≡ t
same_place Start Start h = refl
same_place Start Left h = absurd cc
same_place Start Right h = absurd cc
same_place Start End h = absurd cc
same_place Start Yard h = absurd cc
same_place Left Start h = absurd cc
same_place Left Left h = refl
same_place Left Right h = absurd cc
same_place Left End h = absurd cc
same_place Left Yard h = absurd cc
same_place Right Start h = absurd cc
same_place Right Left h = absurd cc
same_place Right Right h = refl
same_place Right End h = absurd cc
same_place Right Yard h = absurd cc
same_place End Start h = absurd cc
same_place End Left h = absurd cc
same_place End Right h = absurd cc
same_place End End h = refl
same_place End Yard h = absurd cc
same_place Yard Start h = absurd cc
same_place Yard Left h = absurd cc
same_place Yard Right h = absurd cc
same_place Yard End h = absurd cc
same_place Yard Yard h = refl
