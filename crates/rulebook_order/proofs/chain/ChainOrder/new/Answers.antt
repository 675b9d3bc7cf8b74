use Rattle.std.proofs.Common.{◌≡◌, ℕ, ◌<◌, List, get_or, set, below_more, sym, ap, ◌∙◌, arith, length-set}
use Rattle.std.proofs.lemmas.List.{get_or-set_same, get_or-set_other}
use Rattle.preorder.specs.Preorder.{rules_of}
use Rattle.rulebook_order.specs.Shapes.{IsRelatedToAll, rules_above}
use Rattle.rulebook_order.proofs.TopDown.{top_down, rules_above-differ}
use Rattle.rulebook_order.proofs.chain.ChainOrder.new.Goals as goal

pub loop-rule-preserved : goal.loop-rule-preserved
loop-rule-preserved c =
    let order = c.args.order.now in
    let rule : ℕ = c.loop-rule.rule in
    let rules : List ℕ = c.loop-rule.rules in
    let place : ℕ = c.count_above.result in
    let inside : rule < rules_of order = omega (arith, c.loop-rule-test.true, c.len-rule-end.ensures.value) in
    let related : IsRelatedToAll order rule = c.is_related_to_all.ensures.related c.if-not-is_related_to_all.false in
    record {
      size = length-set rules place rule ∙ c.loop-rule.invariant.size;
      related = below_more (λ r. IsRelatedToAll order r) rule c.loop-rule.invariant.related related;
      listed = below_more (λ r. get_or (set rules place rule) (rules_above order r) 0 ≡ r) rule
          (λ r below. get_or-set_other rules place (rules_above order r) rule 0
          (λ e. rules_above-differ order r rule (related r (omega (arith, below, inside)) (λ same. omega (arith, same, below))) (e ∙ c.count_above.ensures.value))
          ∙ c.loop-rule.invariant.listed r below)
          (ap (λ m. get_or (set rules place rule) m 0) (sym c.count_above.ensures.value)
          ∙ get_or-set_same rules place rule 0 (omega (arith, c.count_above.ensures.below, c.loop-rule.invariant.size, order.fits)));
    }

pub invariant_of-result : goal.invariant_of-result
invariant_of-result c = record {
  top_down = top_down c.args.order.now c.loop-rule.rules
      (λ r inside. c.loop-rule.invariant.related r (omega (arith, inside, c.loop-rule-test.false, c.len-rule-end.ensures.value)))
      (λ r inside. c.loop-rule.invariant.listed r (omega (arith, inside, c.loop-rule-test.false, c.len-rule-end.ensures.value)));
}
