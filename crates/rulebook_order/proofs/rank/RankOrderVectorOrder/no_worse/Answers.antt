use Rattle.std.proofs.Common.{◌<◌, true, get_or, below_more, refl, arith}
use Rattle.preorder.specs.Preorder.{rules_of}
use Rattle.rulebook_order.specs.NoWorseBy.{IsExcusedBy}
use Rattle.rulebook_order.specs.RankOrder.{order_of}
use Rattle.rulebook_order.proofs.Excuses.{excused_by_words, unexcused_by_words, unexcused_at_top, same_answer, false_answer}
use Rattle.rulebook_order.proofs.rank.RankOrderVectorOrder.no_worse.Goals as goal
use Rattle.rulebook_order.proofs.rank.RankOrderVectorOrder.no_worse.Goals.{else-y-rule-via-then-y-rule+else-words-rule-eq0, else-y-rule-via-else-y-rule}

pub returns-then-words-top-eq0-clause-words : goal.returns-then-words-top-eq0-clause-words
returns-then-words-top-eq0-clause-words c =
    let inside : c.loop-top.top < rules_of (order_of c.args.self.now) = omega (arith, c.requires.x, c.loop-top-test.true) in
    false_answer (order_of c.args.self.now) c.args.x.now c.args.y.now (λ h. unexcused_at_top (order_of c.args.self.now) c.args.self.now.words c.args.self.now.exact c.args.x.now c.args.y.now c.loop-top.top inside c.if-words-top-eq0.true (h c.loop-top.top inside c.if-y-top.true))

pub returns-then-words-top-eq0-clause-value : goal.returns-then-words-top-eq0-clause-value
returns-then-words-top-eq0-clause-value c = same_answer (order_of c.args.self.now) c.args.x.now c.args.y.now _ (returns-then-words-top-eq0-clause-words c)

pub loop-rule-preserved : goal.loop-rule-preserved
loop-rule-preserved c =
    below_more (λ q. get_or c.args.y.now q 0 < get_or c.args.x.now q 0 → IsExcusedBy (order_of c.args.self.now) c.args.x.now c.args.y.now q) c.loop-rule.rule c.loop-rule.invariant
    (elim c.else-y-rule.branch [
      | else-y-rule-via-then-y-rule+else-words-rule-eq0 w ↦ λ lt. excused_by_words (order_of c.args.self.now) c.args.self.now.words c.args.self.now.exact c.args.x.now c.args.y.now c.requires.x c.wins_of-wins.result c.wins_of-wins.ensures c.loop-rule.rule (omega (arith, c.requires.x, c.loop-rule-test.true)) w.if-words-rule-eq0.false
      | else-y-rule-via-else-y-rule w ↦ λ lt. absurd (omega arith)
    ])

pub returns-then-words-rule-eq0-clause-words : goal.returns-then-words-rule-eq0-clause-words
returns-then-words-rule-eq0-clause-words c = false_answer (order_of c.args.self.now) c.args.x.now c.args.y.now (λ h. unexcused_by_words (order_of c.args.self.now) c.args.self.now.words c.args.self.now.exact c.args.x.now c.args.y.now c.requires.x c.wins_of-wins.result c.wins_of-wins.ensures c.loop-rule.rule (omega (arith, c.requires.x, c.loop-rule-test.true)) c.if-words-rule-eq0.true (h c.loop-rule.rule (omega (arith, c.requires.x, c.loop-rule-test.true)) c.if-y-rule.true))

pub returns-then-words-rule-eq0-clause-value : goal.returns-then-words-rule-eq0-clause-value
returns-then-words-rule-eq0-clause-value c = same_answer (order_of c.args.self.now) c.args.x.now c.args.y.now _ (returns-then-words-rule-eq0-clause-words c)

pub returns-clause-value : goal.returns-clause-value
returns-clause-value c = same_answer (order_of c.args.self.now) c.args.x.now c.args.y.now true (λ _. λ r inside. c.loop-rule.invariant r (omega (arith, c.requires.x, c.loop-rule-test.false, inside)), λ _. refl)
