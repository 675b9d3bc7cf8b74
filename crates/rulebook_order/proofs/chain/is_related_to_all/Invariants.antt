use Rattle.std.proofs.Common.{◌≢◌, ℕ, ◌<◌}
use Rattle.rulebook_order.specs.Shapes.{IsRelated}
use Rattle.rulebook_order.proofs.chain.is_related_to_all.Given as goal

abbrev pub invariant-loop-other : goal.invariant-loop-other
invariant-loop-other l = (q : ℕ) → q < l.other → q ≢ l.rule → IsRelated l.order q l.rule
