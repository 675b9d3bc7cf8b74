use Rattle.std.proofs.Common.{length}
use Rattle.search_trials.proofs.last_first.+is_before.Given as goal

abbrev pub decreases-is_before : goal.decreases-is_before
decreases-is_before l = length l.x.now
