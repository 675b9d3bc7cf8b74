-- What a list of choices reaches leaves room for the next step and for the end.
use Rattle.std.proofs.Common.{◌≡◌, ℕ, zero, suc, ◌+◌, ◌-◌, ◌*◌, ◌^◌, ◌<◌, ◌≤◌, List, [], ◌∷◌, length, replicate, refl, arith}
use Rattle.std.proofs.Math.Nat.{mul-le-mul_left}
use Rattle.std.proofs.lemmas.List.Elements.{All-head, All-tail, All-cons, All-nil, All-weaker, All-replicate}
use Rattle.rulebook_order.specs.Graph.{Graph, IsReached, IsStateOf}
use Rattle.rulebook_order.specs.StepGraph.{IsStepGraph, AllUpTo, HasRoom, ticks_passed}
use Rattle.rulebook_order.specs.Sums.{sums}
use Rattle.rulebook_order.proofs.Reached.{Built, start, extend, built, state_built, IsReached-extend}

AllUpTo-sums : (a b c : ℕ) (xs ys : List ℕ) → a + b ≤ c → AllUpTo a xs → AllUpTo b ys → AllUpTo c (sums xs ys)
AllUpTo-sums a b c [] ys h p q = All-nil (λ x. x ≤ c)
AllUpTo-sums a b c (x ∷ xs) [] h p q = All-nil (λ x. x ≤ c)
AllUpTo-sums a b c (x ∷ xs) (y ∷ ys) h p q =
    let hx = All-head (λ x. x ≤ a) x xs p in
    let hy = All-head (λ x. x ≤ b) y ys q in
    All-cons (λ x. x ≤ c) (x + y) (sums xs ys) (omega arith) (AllUpTo-sums a b c xs ys h (All-tail (λ x. x ≤ a) x xs p) (All-tail (λ x. x ≤ b) y ys q))

-- zeros add nothing
pub sums-zeros : (n : ℕ) (ys : List ℕ) → length ys ≡ n → sums (replicate n 0) ys ≡ ys
sums-zeros zero [] h = refl
sums-zeros zero (y ∷ ys) h = absurd (omega arith)
sums-zeros (suc n) [] h = absurd (omega arith)
sums-zeros (suc n) (y ∷ ys) h = grind (arith, sums-zeros n ys (omega arith))

stretch : (limit t u : ℕ) → t < u → limit * (t + 1) + limit * (u - t) ≤ limit * (u + 1)
stretch limit t u h = grind arith

module _ {S : Type 0} (g : Graph S) (laws : IsStepGraph g) where
  -- a running vector is at most the limit for each tick up to the state's
  limit_built : {s : S} {v : List ℕ} → Built g s v → AllUpTo (g.step_limit * (g.tick s + 1)) v
  limit_built start = All-weaker (λ x. x ≤ g.step_limit) (λ x. x ≤ g.step_limit * (g.tick g.start + 1)) (λ x h. rw laws.start_tick (omega arith)) g.first laws.first.up_to
  limit_built (extend {s} {v} {c} b below) =
      AllUpTo-sums (g.step_limit * (g.tick s + 1)) (g.step_limit * ticks_passed g s c) (g.step_limit * (g.tick (g.next s c) + 1)) v (g.cost s c)
      (stretch g.step_limit (g.tick s) (g.tick (g.next s c)) (laws.tick_rises s c (state_built g b) below)) (limit_built b) (laws.cost s c (state_built g b) below).up_to

  -- so it leaves room for a choice
  pub room_to_extend : (s : S) (v : List ℕ) (c : ℕ) → IsReached g s v → c < g.choices s → HasRoom (g.step_limit * ticks_passed g s c) v
  room_to_extend s v c r below =
      let next : IsStateOf g (g.next s c) = (sums v (g.cost s c), IsReached-extend g s v c r below) in
      let high = laws.tick_high (g.next s c) next in
      let most = laws.sums_fit in
      let long = stretch g.step_limit (g.tick s) (g.tick (g.next s c)) (laws.tick_rises s c (v, r) below) in
      let in_all : g.step_limit * (g.tick (g.next s c) + 1) ≤ g.step_limit * (g.last + 2) = mul-le-mul_left g.step_limit (omega arith) in
      All-weaker (λ x. x ≤ g.step_limit * (g.tick s + 1)) (λ x. x + g.step_limit * ticks_passed g s c < 2 ^ 64) (λ x h. omega arith) v (limit_built (built g r))

  -- and for the end
  pub room_to_finish : (s : S) (v : List ℕ) → IsReached g s v → HasRoom g.step_limit v
  room_to_finish s v r =
      let high = laws.tick_high s (v, r) in
      let most = laws.sums_fit in
      let in_all : g.step_limit * (g.tick s + 2) ≤ g.step_limit * (g.last + 2) = mul-le-mul_left g.step_limit (omega arith) in
      let split : g.step_limit * (g.tick s + 1) + g.step_limit ≡ g.step_limit * (g.tick s + 2) = grind arith in
      All-weaker (λ x. x ≤ g.step_limit * (g.tick s + 1)) (λ x. x + g.step_limit < 2 ^ 64) (λ x h. omega arith) v (limit_built (built g r))

  -- zeros leave room for the start
  pub room_to_start : HasRoom g.step_limit (replicate g.width 0)
  room_to_start =
      let most = laws.sums_fit in
      let in_all : g.step_limit * 1 ≤ g.step_limit * (g.last + 2) = mul-le-mul_left g.step_limit (omega arith) in
      All-replicate (λ x. x + g.step_limit < 2 ^ 64) g.width 0 (omega arith)
