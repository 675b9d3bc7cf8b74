use Rattle.std.specs.Prelude.{ℕ, ◌<◌, IsTrue, length}
use Rattle.preorder.specs.Preorder.{same}
use Rattle.book_operations.specs.First.{IsFirst}
use Rattle.book_operations.specs.Images.{IsNew}
use Rattle.book_operations.proofs.LostPairs.{read-name}
use Rattle.book_operations.proofs.Merged.{first-apart, class-kept}
use Rattle.book_operations.proofs.Refusals.{of_read}
use Rattle.book_operations.proofs.aggregation.keep_class.Goals as goal

pub returns-in-Some-clause-err : goal.returns-in-Some-clause-err
returns-in-Some-clause-err c =
    let parent = c.args.parent.now in
    let child = c.args.child.now in
    let later = first-apart parent child c.order.result c.order.ensures.size c.order.ensures.closure c.args.merged c.requires.first c.in-Some.later
    (of_read (λ rs os. IsFirst (length rs) (λ k. (c.args.merged < k) × IsNew rs os k × ¬ IsTrue (same c.order.result c.args.merged k)) c.in-Some.later) _ _ parent.rules child.rules c.as_slice-rules.ensures c.as_slice.ensures c.in-Some.ensures) in
    record {
      upper = c.args.merged;
      lower = c.in-Some.later;
      first = c.requires.first;
      later = later;
      upper_name = read-name c.as_slice-rules.result.now parent.rules c.args.merged c.index-rules-merged.result c.as_slice-rules.ensures c.requires.first.inside;
      lower_name = read-name c.as_slice-rules.result.now parent.rules c.in-Some.later c.index-rules-later.result c.as_slice-rules.ensures later.inside;
    }

pub returns-in-None-clause-ok : goal.returns-in-None-clause-ok
returns-in-None-clause-ok c =
    let parent = c.args.parent.now in
    let child = c.args.child.now in
    class-kept parent child c.order.result c.order.ensures.size c.order.ensures.closure c.args.merged c.requires.first
    (of_read (λ rs os. (k : ℕ) → c.args.merged < k → k < length rs → IsNew rs os k → IsTrue (same c.order.result c.args.merged k)) _ _ parent.rules child.rules c.as_slice-rules.ensures c.as_slice.ensures c.in-None.ensures)
