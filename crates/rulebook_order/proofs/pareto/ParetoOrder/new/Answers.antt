use Rattle.std.proofs.Common.{arith}
use Rattle.std.proofs.lemmas.Bool.{and_parts}
use Rattle.preorder.specs.Preorder.{at_least}
use Rattle.rulebook_order.proofs.pareto.ParetoOrder.new.Goals as goal

pub invariant_of-result : goal.invariant_of-result
invariant_of-result c = record {
  flat = λ q r h.
      let inside = c.args.order.now.closed.within q r (and_parts (at_least c.args.order.now q r) _ h).0 in
      c.loop-rule.invariant r (omega (arith, inside.1, c.loop-rule-test.false, c.len-rule-end.ensures.value)) (record { rule = q; above = h });
}
