use Rattle.std.proofs.Common.{ℕ, ◌<◌}
use Rattle.rulebook_order.specs.NoWorseBy.{IsAboveBy}
use Rattle.rulebook_order.proofs.pareto.has_rule_above.Given as goal

abbrev pub invariant-loop-other : goal.invariant-loop-other
invariant-loop-other l = (q : ℕ) → q < l.other → IsAboveBy l.order q l.rule → ⊥
