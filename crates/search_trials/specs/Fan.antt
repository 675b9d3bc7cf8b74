-- A fan of 32 choices at each of 35 steps: choice c adds c to the first number and 31 - c to the
-- second.
use Rattle.std.specs.Prelude.{◌≡◌, ℕ, ◌+◌, ◌-◌, ◌*◌, ◌^◌, ◌<◌, ◌≤◌, Bool, true, List, [], ◌∷◌}
use Rattle.std.specs.Prelude.{length, All, cond, nat_lt, nat_eq, slice_index, slice_set, refl}
use Rattle.std.proofs.Common.{arith, inl, inr}
use Rattle.std.proofs.lemmas.Bool.{eqb-true, cases_lt, lt-ltb, le-ltb, cond-true, cond-false}
use Rattle.rulebook_order.specs.Graph.{Graph}
use Rattle.rulebook_order.specs.StepGraph.{IsStepGraph}
use Rattle.rulebook_order.proofs.Reached.{Built, start, extend, built}
use Rattle.search_trials.specs.Pairs.{two}

abbrev pub fan : Graph ℕ
fan = record {
  width = 2;
  last = 35;
  step_limit = 31;
  start = 0;
  first = 0 ∷ 0 ∷ [];
  choices = λ s. cond (nat_lt s 35) 32 0;
  next = λ s c. s + 1;
  cost = λ s c. c ∷ (31 - c) ∷ [];
  finish = λ s. 0 ∷ 0 ∷ [];
  goal = λ s. nat_eq s 35;
  tick = λ s. s;
}

pub choice_below : (s c : ℕ) → c < cond (nat_lt s 35) 32 0 → (s < 35) × (c < 32)
choice_below s c h = elim (cases_lt s 35) [
  | inl low ↦ (low, rw (cond-true {A = ℕ} (nat_lt s 35) 32 0 (lt-ltb s 35 low)) at h)
  | inr high ↦ (let k : c < 0 = rw (cond-false {A = ℕ} (nat_lt s 35) 32 0
      (le-ltb s 35 high)) at h in absurd (omega arith))
]

choices_below : (s : ℕ) → cond (nat_lt s 35) 32 0 < 2 ^ 32
choices_below s = elim (cases_lt s 35) [
  | inl low ↦ rw (cond-true {A = ℕ} (nat_lt s 35) 32 0 (lt-ltb s 35 low)) (omega arith)
  | inr high ↦ rw (cond-false {A = ℕ} (nat_lt s 35) 32 0 (le-ltb s 35 high)) (omega arith)
]

low : {s : ℕ} {v : List ℕ} → Built fan s v → s ≤ 35
low start = omega arith
low (extend {s} {v} {c} b h) = let k = choice_below s c h in omega arith

pub fan-laws : IsStepGraph fan
fan-laws = record {
  width = (omega arith, omega arith);
  choices = λ s r. choices_below s;
  start_tick = refl;
  tick_rises = λ s c r h. omega arith;
  tick_high = λ s r. low (built fan r.1);
  first = record { width = refl; up_to = two 31 0 0 (omega arith) (omega arith) };
  cost =
      λ s c r h. (let k = choice_below s c h in let one : (s + 1) - s
      ≡ 1 = omega arith in record {
        width = refl;
        up_to = rw one
            (two (31 * 1) c (31 - c) (omega arith) (omega arith));
      });
  finish = λ s r. record { width = refl; up_to = two 31 0 0 (omega arith) (omega arith) };
  sums_fit = omega arith;
}

pub same_number : (a b : ℕ) → nat_eq a b ≡ true → a ≡ b
same_number a b h = eqb-true a b h
