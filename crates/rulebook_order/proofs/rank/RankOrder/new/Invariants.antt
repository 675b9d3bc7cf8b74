use Rattle.std.proofs.Common.{◌≡◌, ℕ, ◌<◌, length}
use Rattle.preorder.specs.declared.limits.TheConstants.{MAX_RULES}
use Rattle.preorder.specs.Preorder.{above}
use Rattle.preorder.specs.Relation.{related}
use Rattle.rulebook_order.proofs.rank.RankOrder.new.Given as goal

abbrev pub invariant-loop-rule : goal.invariant-loop-rule
invariant-loop-rule l = record {
  size : length l.words ≡ MAX_RULES;
  done : (r : ℕ) → r < l.rule → (q : ℕ) → related l.words r q ≡ above l.order q r;
}
