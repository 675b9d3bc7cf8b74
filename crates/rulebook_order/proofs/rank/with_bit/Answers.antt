use Rattle.rulebook_order.proofs.Bits.{with_bit-bits}
use Rattle.rulebook_order.proofs.rank.with_bit.Goals as goal

pub returns : goal.returns
returns c = with_bit-bits c.args.word c.args.bit c.requires
