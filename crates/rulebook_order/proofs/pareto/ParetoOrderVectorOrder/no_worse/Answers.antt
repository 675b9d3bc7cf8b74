use Rattle.std.proofs.Common.{true, refl, arith}
use Rattle.rulebook_order.specs.ParetoOrder.{order_of}
use Rattle.rulebook_order.proofs.Excuses.{same_answer, false_answer}
use Rattle.rulebook_order.proofs.pareto.ParetoOrderVectorOrder.no_worse.Goals as goal

pub returns-then-y-rule-clause-words : goal.returns-then-y-rule-clause-words
returns-then-y-rule-clause-words c = false_answer (order_of c.args.self.now) c.args.x.now c.args.y.now (λ h.
    let e = h c.loop-rule.rule (omega (arith, c.requires.x, c.loop-rule-test.true)) c.if-y-rule.true in
    c.args.self.now.flat e.rule c.loop-rule.rule e.above)

pub returns-then-y-rule-clause-value : goal.returns-then-y-rule-clause-value
returns-then-y-rule-clause-value c = same_answer (order_of c.args.self.now) c.args.x.now c.args.y.now _ (returns-then-y-rule-clause-words c)

pub returns-clause-value : goal.returns-clause-value
returns-clause-value c = same_answer (order_of c.args.self.now) c.args.x.now c.args.y.now true (λ _. λ r inside loss. absurd (omega (arith, loss, c.loop-rule.invariant r (omega (arith, c.requires.x, c.loop-rule-test.false, inside)))), λ _. refl)
