use Rattle.std.proofs.Common.{ℕ, ◌<◌, length}
use Rattle.std.proofs.lemmas.Result.{err_from_is_err_and, on_ok_weaker, IfErr-weaker}
use Rattle.book_operations.specs.Images.{HasEqual, IsNew, HasNewName}
use Rattle.book_operations.specs.Tests.{once, IsRefinementFault, LosesPair}
use Rattle.book_operations.proofs.Kept.{names-kept, none-added, one-class, once-counted}
use Rattle.book_operations.proofs.Measured.{kept-measured}
use Rattle.book_operations.proofs.Refusals.{refinement-other, refinement-lost, of_read}
use Rattle.book_operations.proofs.refinement.test_refinement.Goals as goal

pub returns-in_err-keep_names-clause-refuses : goal.returns-in_err-keep_names-clause-refuses
returns-in_err-keep_names-clause-refuses c =
    let p = err_from_is_err_and c.from_residual-in_err-keep_names.result c.from_residual-in_err-keep_names.ensures.1 in
    let parent = c.args.parent.now in
    let child = c.args.child.now in
    let kept = of_read (λ rs os. (r : ℕ) → r < length rs → HasEqual rs os r) _ _ parent.rules child.rules c.as_slice.ensures c.as_slice-2.ensures c.in_ok-keep_rules.ensures.ok in
    rw (p.1, p.2) (refinement-other parent child kept c.in_err-keep_names.field-0.0
    (of_read (λ rs os. HasNewName rs os c.in_err-keep_names.field-0.0) _ _ child.rules parent.rules c.as_slice-3.ensures c.as_slice-4.ensures c.in_err-keep_names.ensures.err))

pub keep_pairs-requires-clause-classes : goal.keep_pairs-requires-clause-classes
keep_pairs-requires-clause-classes c =
    let parent = c.args.parent.now in
    let child = c.args.child.now in
    let kept = of_read (λ rs os. (r : ℕ) → r < length rs → HasEqual rs os r) _ _ parent.rules child.rules c.as_slice.ensures c.as_slice-2.ensures c.in_ok-keep_rules.ensures.ok in
    one-class parent child c.requires.parent (names-kept parent child kept)

pub returns-clause-accepts : goal.returns-clause-accepts
returns-clause-accepts c =
    let parent = c.args.parent.now in
    let child = c.args.child.now in
    let kept = of_read (λ rs os. (r : ℕ) → r < length rs → HasEqual rs os r) _ _ parent.rules child.rules c.as_slice.ensures c.as_slice-2.ensures c.in_ok-keep_rules.ensures.ok in
    let no_others = of_read (λ rs os. (r : ℕ) → r < length rs → ¬ IsNew rs os r) _ _ child.rules parent.rules c.as_slice-3.ensures c.as_slice-4.ensures c.in_ok-keep_names.ensures.ok in
    on_ok_weaker c.keep_pairs.result (λ strict. record { kept = kept; no_others = no_others; strict = strict }) c.keep_pairs.ensures.ok

pub returns-clause-carries : goal.returns-clause-carries
returns-clause-carries c =
    let parent = c.args.parent.now in
    let child = c.args.child.now in
    let kept = of_read (λ rs os. (r : ℕ) → r < length rs → HasEqual rs os r) _ _ parent.rules child.rules c.as_slice.ensures c.as_slice-2.ensures c.in_ok-keep_rules.ensures.ok in
    on_ok_weaker c.keep_pairs.result (λ _ amount _. kept-measured parent child c.requires.parent c.requires.child kept amount) c.keep_pairs.ensures.ok

pub returns-clause-keeps : goal.returns-clause-keeps
returns-clause-keeps c =
    let parent = c.args.parent.now in
    let child = c.args.child.now in
    let kept = of_read (λ rs os. (r : ℕ) → r < length rs → HasEqual rs os r) _ _ parent.rules child.rules c.as_slice.ensures c.as_slice-2.ensures c.in_ok-keep_rules.ensures.ok in
    let no_others = of_read (λ rs os. (r : ℕ) → r < length rs → ¬ IsNew rs os r) _ _ child.rules parent.rules c.as_slice-3.ensures c.as_slice-4.ensures c.in_ok-keep_names.ensures.ok in
    on_ok_weaker c.keep_pairs.result (λ keeps. keeps (none-added parent child c.requires.child (names-kept parent child kept) no_others) once (once-counted parent child)) c.keep_pairs.ensures.keeps

pub returns-clause-refuses : goal.returns-clause-refuses
returns-clause-refuses c =
    let parent = c.args.parent.now in
    let child = c.args.child.now in
    let kept = of_read (λ rs os. (r : ℕ) → r < length rs → HasEqual rs os r) _ _ parent.rules child.rules c.as_slice.ensures c.as_slice-2.ensures c.in_ok-keep_rules.ensures.ok in
    let no_others = of_read (λ rs os. (r : ℕ) → r < length rs → ¬ IsNew rs os r) _ _ child.rules parent.rules c.as_slice-3.ensures c.as_slice-4.ensures c.in_ok-keep_names.ensures.ok in
    IfErr-weaker c.keep_pairs.result (LosesPair parent child) (IsRefinementFault parent child) (refinement-lost parent child kept no_others) c.keep_pairs.ensures.err
