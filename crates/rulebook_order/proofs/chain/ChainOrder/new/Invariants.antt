use Rattle.std.proofs.Common.{◌≡◌, ℕ, ◌<◌, length, get_or}
use Rattle.preorder.specs.declared.limits.TheConstants.{MAX_RULES}
use Rattle.rulebook_order.specs.Shapes.{IsRelatedToAll, rules_above}
use Rattle.rulebook_order.proofs.chain.ChainOrder.new.Given as goal

abbrev pub invariant-loop-rule : goal.invariant-loop-rule
invariant-loop-rule l = record {
  size : length l.rules ≡ MAX_RULES;
  related : (r : ℕ) → r < l.rule → IsRelatedToAll l.order r;
  listed : (r : ℕ) → r < l.rule → get_or l.rules (rules_above l.order r) 0 ≡ r;
}
