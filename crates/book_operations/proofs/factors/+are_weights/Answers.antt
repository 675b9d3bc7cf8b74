use Rattle.std.proofs.Common.{arith}
use Rattle.book_operations.proofs.SmallFactors.{few-weights}
use Rattle.book_operations.proofs.factors.+are_weights.Goals as goal

pub returns-in_default : goal.returns-in_default
returns-in_default t c = few-weights c.args.words.now (omega (arith, c.in_default.len_below))
