use Rattle.std.proofs.Common.{◌≢◌, sym, ◌∙◌, below_more, arith}
use Rattle.std.proofs.lemmas.Bool.{both_ways}
use Rattle.rulebook_order.specs.Shapes.{IsRelated}
use Rattle.rulebook_order.proofs.chain.is_related_to_all.Goals as goal
use Rattle.rulebook_order.proofs.chain.is_related_to_all.Goals.{else-other-rule-via-then-other-rule+else-not-is_related, else-other-rule-via-else-other-rule}

pub returns-then-not-is_related-clause-unrelated : goal.returns-then-not-is_related-clause-unrelated
returns-then-not-is_related-clause-unrelated c = λ _. record {
  one = c.loop-other.other;
  other = c.args.rule;
  one_inside = omega (arith, c.loop-other-test.true, c.len-other-end.ensures.value);
  other_inside = c.requires;
  different = c.if-other-rule.true;
  unrelated = λ h. both_ways _ c.if-not-is_related.true (c.is_related.ensures ∙ h);
}

pub loop-other-preserved : goal.loop-other-preserved
loop-other-preserved c =
    below_more (λ q. q ≢ c.args.rule → IsRelated c.args.order.now q c.args.rule) c.loop-other.other c.loop-other.invariant
    (elim c.else-other-rule.branch [
      | else-other-rule-via-then-other-rule+else-not-is_related w ↦ λ ne. sym w.is_related.ensures ∙ w.if-not-is_related.false
      | else-other-rule-via-else-other-rule w ↦ λ ne. absurd (ne w.if-other-rule.false)
    ])
