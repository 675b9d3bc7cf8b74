use Rattle.std.proofs.Common.{length}
use Rattle.book_operations.proofs.factors.+factor_in.Given as goal

abbrev pub decreases-factor_in : goal.decreases-factor_in
decreases-factor_in l = length l.words.now
