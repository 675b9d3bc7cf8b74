use Rattle.std.specs.Prelude.{ℕ, ◌<◌}
use Rattle.book_operations.specs.Images.{IsNew}
use Rattle.book_operations.proofs.aggregation.next_new.Given as goal

abbrev pub invariant-loop-next : goal.invariant-loop-next
invariant-loop-next l = (k : ℕ) → l.after < k → k < l.next → ¬ IsNew l.rules l.others k
