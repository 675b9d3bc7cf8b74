use Rattle.std.proofs.Common.{ℕ, ◌<◌, ◌≤◌, get_or}
use Rattle.rulebook_order.proofs.pareto.ParetoOrderVectorOrder.no_worse.Given as goal

abbrev pub invariant-loop-rule : goal.invariant-loop-rule
invariant-loop-rule l = (q : ℕ) → q < l.rule → get_or l.x q 0 ≤ get_or l.y q 0
