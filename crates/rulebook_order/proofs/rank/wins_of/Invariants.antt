use Rattle.std.proofs.Common.{◌≡◌, ℕ, ◌&&◌, eqb, ltb}
use Rattle.std.specs.Int.{bit_at}
use Rattle.rulebook_order.specs.NoWorseBy.{is_loss}
use Rattle.rulebook_order.proofs.rank.wins_of.Given as goal

abbrev pub invariant-loop-rule : goal.invariant-loop-rule
invariant-loop-rule l = (q : ℕ) → eqb (bit_at l.word q) 1 ≡ (ltb q l.rule && is_loss l.y l.x q)
