use Rattle.std.proofs.Common.{refl}
use Rattle.fixed_decimal.proofs.Pieces.{alone, front_within}
use Rattle.fixed_decimal.proofs.digits.whole_number.Goals as goal

pub leading-requires-clause-count : goal.leading-requires-clause-count
leading-requires-clause-count c = front_within _

pub returns : goal.returns
returns c = alone _ _ refl c.leading.ensures
