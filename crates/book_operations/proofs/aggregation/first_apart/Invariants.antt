use Rattle.std.specs.Prelude.{ℕ, ◌<◌, IsTrue}
use Rattle.preorder.specs.Preorder.{same}
use Rattle.book_operations.specs.Images.{IsNew}
use Rattle.book_operations.proofs.aggregation.first_apart.Given as goal

abbrev pub invariant-loop-later : goal.invariant-loop-later
invariant-loop-later l = (k : ℕ) → l.merged < k → k < l.later → IsNew l.rules l.others k → IsTrue (same l.order l.merged k)
