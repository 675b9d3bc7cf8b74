use Rattle.std.proofs.Common.{length}
use Rattle.book_operations.proofs.sum.+sums_up.Given as goal

abbrev pub decreases-sums_up : goal.decreases-sums_up
decreases-sums_up l = length l.rules.now
