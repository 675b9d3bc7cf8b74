use Rattle.std.proofs.Common.{◌≡◌, ℕ, ◌&&◌, eqb, ltb}
use Rattle.std.specs.Int.{bit_at}
use Rattle.preorder.specs.Preorder.{above}
use Rattle.rulebook_order.proofs.rank.word_above.Given as goal

abbrev pub invariant-loop-other : goal.invariant-loop-other
invariant-loop-other l = (q : ℕ) → eqb (bit_at l.word q) 1 ≡ (ltb q l.other && above l.order q l.rule)
