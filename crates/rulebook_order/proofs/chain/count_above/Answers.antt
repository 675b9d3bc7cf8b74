use Rattle.std.proofs.Common.{◌≡◌, ap, arith}
use Rattle.preorder.specs.Preorder.{rules_of, above}
use Rattle.rulebook_order.specs.laws.Count.{count_below}
use Rattle.rulebook_order.proofs.TopDown.{rules_above-lt}
use Rattle.rulebook_order.proofs.chain.count_above.Goals as goal

pub returns-clause-below : goal.returns-clause-below
returns-clause-below c =
    let all : c.loop-other.other ≡ rules_of c.args.order.now = omega (arith, c.loop-other-test.false, c.loop-other.auto.other-end, c.len-other-end.ensures.value) in
    omega (arith, c.loop-other.invariant.value, ap (count_below (λ q. above c.args.order.now q c.args.rule)) all, rules_above-lt c.args.order.now c.args.rule c.requires)
