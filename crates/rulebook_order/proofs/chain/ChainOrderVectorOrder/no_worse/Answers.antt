use Rattle.std.proofs.Common.{◌<◌, get_or, true, refl, inl, inr, arith}
use Rattle.std.proofs.lemmas.Bool.{cases_order, lt-ltb, ltb-true}
use Rattle.preorder.specs.Preorder.{rules_of}
use Rattle.rulebook_order.specs.ChainOrder.{order_of}
use Rattle.rulebook_order.proofs.Excuses.{same_answer}
use Rattle.rulebook_order.proofs.TopDown.{no_worse_alike, no_worse_by_first, worse_by_first}
use Rattle.rulebook_order.proofs.chain.ChainOrderVectorOrder.no_worse.Goals as goal

pub returns-then-x-rule-clause-words : goal.returns-then-x-rule-clause-words
returns-then-x-rule-clause-words c =
    let chain = order_of c.args.self.now in
    let inside : c.loop-place.place < rules_of chain = omega (arith, c.requires.x, c.loop-place-test.true) in (
      λ less. no_worse_by_first chain c.args.self.now.rules c.args.self.now.top_down c.args.x.now c.args.y.now c.loop-place.place inside c.loop-place.invariant (ltb-true _ _ less),
      λ h. elim (cases_order (get_or c.args.x.now (get_or c.args.self.now.rules c.loop-place.place 0) 0) (get_or c.args.y.now (get_or c.args.self.now.rules c.loop-place.place 0) 0)) [
        | inl same ↦ absurd (c.if-x-rule.true same)
        | inr (inl less) ↦ lt-ltb _ _ less
        | inr (inr more) ↦ absurd (worse_by_first chain c.args.self.now.rules c.args.self.now.top_down c.args.x.now c.args.y.now c.loop-place.place inside c.loop-place.invariant more h)
      ],
    )

pub returns-then-x-rule-clause-value : goal.returns-then-x-rule-clause-value
returns-then-x-rule-clause-value c = same_answer (order_of c.args.self.now) c.args.x.now c.args.y.now _ (returns-then-x-rule-clause-words c)

pub returns-clause-words : goal.returns-clause-words
returns-clause-words c = (λ _. no_worse_alike (order_of c.args.self.now) c.args.self.now.rules c.args.self.now.top_down c.args.x.now c.args.y.now c.loop-place.place (omega (arith, c.requires.x, c.loop-place-test.false)) c.loop-place.invariant, λ _. refl)

pub returns-clause-value : goal.returns-clause-value
returns-clause-value c = same_answer (order_of c.args.self.now) c.args.x.now c.args.y.now true (returns-clause-words c)
