use Rattle.std.proofs.Common.{ℕ, ◌<◌}
use Rattle.rulebook_order.specs.Shapes.{HasRuleAbove}
use Rattle.rulebook_order.proofs.pareto.ParetoOrder.new.Given as goal

abbrev pub invariant-loop-rule : goal.invariant-loop-rule
invariant-loop-rule l = (r : ℕ) → r < l.rule → HasRuleAbove l.order r → ⊥
