use Rattle.std.proofs.Common.{sym, ◌∙◌}
use Rattle.preorder.specs.Preorder.{above}
use Rattle.rulebook_order.proofs.Bits.{bits_with, bits_without}
use Rattle.rulebook_order.proofs.rank.word_above.Goals as goal
use Rattle.rulebook_order.proofs.rank.word_above.Goals.{then-above, else-above}

pub loop-other-preserved : goal.loop-other-preserved
loop-other-preserved c = elim c.if-above.branch [
  | then-above w ↦ rw w.word-is (bits_with (λ q. above c.args.order.now q c.args.rule) c.loop-other.other c.loop-other.word c.loop-other.invariant w.with_bit-word.result w.with_bit-word.ensures (sym c.above.ensures ∙ w.if-above.true))
  | else-above w ↦ rw w.word-is (bits_without (λ q. above c.args.order.now q c.args.rule) c.loop-other.other c.loop-other.word c.loop-other.invariant (sym c.above.ensures ∙ w.if-above.false))
]
