use Rattle.std.proofs.Common.{length}
use Rattle.book_operations.proofs.factors.+are_weights.Given as goal

abbrev pub decreases-are_weights : goal.decreases-are_weights
decreases-are_weights l = length l.words.now
