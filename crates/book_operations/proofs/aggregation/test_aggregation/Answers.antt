use Rattle.std.specs.Prelude.{List, ℕ}
use Rattle.std.proofs.lemmas.Result.{err_from_is_err_and, on_ok_weaker, IfErr-weaker}
use Rattle.book_operations.specs.Aggregation.{MergesRules, DiffersInRules, IsSumBy}
use Rattle.book_operations.specs.Tests.{IsCounted, ShowsLoss}
use Rattle.book_operations.proofs.Measured.{merged-measured}
use Rattle.book_operations.proofs.Merged.{merge-classes, merge-adds_none, sum-counted}
use Rattle.book_operations.proofs.Refusals.{aggregation-rules, of_read}
use Rattle.book_operations.proofs.aggregation.test_aggregation.Goals as goal

pub returns-in_err-merged-clause-refuses : goal.returns-in_err-merged-clause-refuses
returns-in_err-merged-clause-refuses c =
    let p = err_from_is_err_and c.from_residual.result c.from_residual.ensures.1 in
    let parent = c.args.parent.now in
    let child = c.args.child.now in
    rw (p.1, p.2) (aggregation-rules parent child c.in_err-merged.field-0.0
    (of_read (λ rs os. DiffersInRules rs os c.in_err-merged.field-0.0) _ _ parent.rules child.rules c.as_slice.ensures c.as_slice-2.ensures c.in_err-merged.ensures.err))

pub keep_pairs-requires-clause-classes : goal.keep_pairs-requires-clause-classes
keep_pairs-requires-clause-classes c =
    let parent = c.args.parent.now in
    let child = c.args.child.now in
    let merges = of_read (λ rs os. MergesRules rs os) _ _ parent.rules child.rules c.as_slice.ensures c.as_slice-2.ensures c.in_ok-merged.ensures.ok in
    merge-classes parent child c.requires.parent c.requires.child merges c.in_ok-keep_class.ensures.ok

pub returns-clause-carries : goal.returns-clause-carries
returns-clause-carries c =
    let parent = c.args.parent.now in
    let child = c.args.child.now in
    let merges = of_read (λ rs os. MergesRules rs os) _ _ parent.rules child.rules c.as_slice.ensures c.as_slice-2.ensures c.in_ok-merged.ensures.ok in
    on_ok_weaker c.keep_pairs.result (λ _ times sum amount measure. merged-measured parent child c.requires.parent c.requires.child merges times sum amount measure) c.keep_pairs.ensures.ok

pub returns-clause-keeps : goal.returns-clause-keeps
returns-clause-keeps c =
    let parent = c.args.parent.now in
    let child = c.args.child.now in
    let merges = of_read (λ rs os. MergesRules rs os) _ _ parent.rules child.rules c.as_slice.ensures c.as_slice-2.ensures c.in_ok-merged.ensures.ok in
    on_ok_weaker c.keep_pairs.result (λ keeps times sum. keeps (merge-adds_none parent child c.requires.parent c.requires.child merges) times (sum-counted parent child times sum)) c.keep_pairs.ensures.keeps

pub returns-clause-shows : goal.returns-clause-shows
returns-clause-shows c =
    let parent = c.args.parent.now in
    let child = c.args.child.now in
    IfErr-weaker c.keep_pairs.result
    (λ fault. (times : List ℕ → ℕ) → IsCounted parent child times → ShowsLoss parent child times fault)
    (λ fault. (times : List ℕ → ℕ) → IsSumBy parent child times → ShowsLoss parent child times fault)
    (λ fault shows times sum. shows times (sum-counted parent child times sum)) c.keep_pairs.ensures.shows
