use Rattle.std.proofs.Common.{ℕ, ◌<◌, get_or}
use Rattle.rulebook_order.specs.NoWorseBy.{IsExcusedBy}
use Rattle.rulebook_order.specs.RankOrder.{order_of}
use Rattle.rulebook_order.proofs.rank.RankOrderVectorOrder.no_worse.Given as goal

abbrev pub invariant-loop-rule : goal.invariant-loop-rule
invariant-loop-rule l = (q : ℕ) → q < l.rule → get_or l.y q 0 < get_or l.x q 0 → IsExcusedBy (order_of l.self) l.x l.y q
