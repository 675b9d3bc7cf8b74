use Rattle.std.proofs.Common.{ℕ, ◌<◌, length}
use Rattle.std.proofs.lemmas.Result.{err_from_is_err_and, on_ok_weaker, IfErr-weaker}
use Rattle.book_operations.specs.Images.{HasEqual}
use Rattle.book_operations.specs.Tests.{once, IsAugmentationFault, RaisesAdded}
use Rattle.book_operations.proofs.Kept.{names-kept, one-class, once-counted, others-lowest}
use Rattle.book_operations.proofs.Measured.{kept-measured}
use Rattle.book_operations.proofs.Refusals.{augmentation-lost, augmentation-raised, of_read}
use Rattle.book_operations.proofs.augmentation.test_augmentation.Goals as goal

pub keep_pairs-requires-clause-classes : goal.keep_pairs-requires-clause-classes
keep_pairs-requires-clause-classes c =
    let parent = c.args.parent.now in
    let child = c.args.child.now in
    let kept = of_read (λ rs os. (r : ℕ) → r < length rs → HasEqual rs os r) _ _ parent.rules child.rules c.as_slice.ensures c.as_slice-2.ensures c.in_ok-keep_rules.ensures.ok in
    one-class parent child c.requires.parent (names-kept parent child kept)

pub returns-in_err-keep_pairs-clause-refuses : goal.returns-in_err-keep_pairs-clause-refuses
returns-in_err-keep_pairs-clause-refuses c =
    let p = err_from_is_err_and c.from_residual-in_err-keep_pairs.result c.from_residual-in_err-keep_pairs.ensures.1 in
    let parent = c.args.parent.now in
    let child = c.args.child.now in
    let kept = of_read (λ rs os. (r : ℕ) → r < length rs → HasEqual rs os r) _ _ parent.rules child.rules c.as_slice.ensures c.as_slice-2.ensures c.in_ok-keep_rules.ensures.ok in
    rw (p.1, p.2) (augmentation-lost parent child kept c.in_err-keep_pairs.field-0.0 c.in_err-keep_pairs.ensures.err)

pub returns-in_err-keep_pairs-clause-shows : goal.returns-in_err-keep_pairs-clause-shows
returns-in_err-keep_pairs-clause-shows c =
    let p = err_from_is_err_and c.from_residual-in_err-keep_pairs.result c.from_residual-in_err-keep_pairs.ensures.1 in
    rw (p.1, p.2) (c.in_err-keep_pairs.ensures.shows once (once-counted c.args.parent.now c.args.child.now))

pub keep_lowest-requires-clause-kept : goal.keep_lowest-requires-clause-kept
keep_lowest-requires-clause-kept c = of_read (λ rs os. (r : ℕ) → r < length rs → HasEqual rs os r) _ _ c.args.parent.now.rules c.args.child.now.rules c.as_slice.ensures c.as_slice-2.ensures c.in_ok-keep_rules.ensures.ok

pub returns-clause-accepts : goal.returns-clause-accepts
returns-clause-accepts c =
    let parent = c.args.parent.now in
    let child = c.args.child.now in
    let kept = of_read (λ rs os. (r : ℕ) → r < length rs → HasEqual rs os r) _ _ parent.rules child.rules c.as_slice.ensures c.as_slice-2.ensures c.in_ok-keep_rules.ensures.ok in
    on_ok_weaker c.keep_lowest.result (λ lowest. record { kept = kept; strict = c.in_ok-keep_pairs.ensures.ok; lowest = lowest }) c.keep_lowest.ensures.ok

pub returns-clause-carries : goal.returns-clause-carries
returns-clause-carries c =
    let parent = c.args.parent.now in
    let child = c.args.child.now in
    let kept = of_read (λ rs os. (r : ℕ) → r < length rs → HasEqual rs os r) _ _ parent.rules child.rules c.as_slice.ensures c.as_slice-2.ensures c.in_ok-keep_rules.ensures.ok in
    on_ok_weaker c.keep_lowest.result (λ _ amount _. kept-measured parent child c.requires.parent c.requires.child kept amount) c.keep_lowest.ensures.ok

pub returns-clause-keeps : goal.returns-clause-keeps
returns-clause-keeps c =
    let parent = c.args.parent.now in
    let child = c.args.child.now in
    let kept = of_read (λ rs os. (r : ℕ) → r < length rs → HasEqual rs os r) _ _ parent.rules child.rules c.as_slice.ensures c.as_slice-2.ensures c.in_ok-keep_rules.ensures.ok in
    on_ok_weaker c.keep_lowest.result (λ lowest. c.in_ok-keep_pairs.ensures.keeps (others-lowest parent child c.requires.child (names-kept parent child kept) lowest) once (once-counted parent child)) c.keep_lowest.ensures.ok

pub returns-clause-refuses : goal.returns-clause-refuses
returns-clause-refuses c =
    let parent = c.args.parent.now in
    let child = c.args.child.now in
    let kept = of_read (λ rs os. (r : ℕ) → r < length rs → HasEqual rs os r) _ _ parent.rules child.rules c.as_slice.ensures c.as_slice-2.ensures c.in_ok-keep_rules.ensures.ok in
    IfErr-weaker c.keep_lowest.result (RaisesAdded parent child) (IsAugmentationFault parent child) (augmentation-raised parent child kept c.in_ok-keep_pairs.ensures.ok) c.keep_lowest.ensures.err
