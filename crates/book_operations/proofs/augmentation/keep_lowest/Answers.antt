use Rattle.std.specs.Prelude.{ℕ, ◌<◌, slice_index}
use Rattle.std.proofs.Common.{◌∙◌, sym, ap, subst, List, length}
use Rattle.rule_language.specs.declared.book.Rule.{Rule}
use Rattle.book_operations.specs.Derivation.{one_at}
use Rattle.book_operations.specs.First.{IsFirstPair}
use Rattle.book_operations.specs.Images.{IsRaised}
use Rattle.book_operations.specs.Tests.{size_of, LosesCarried}
use Rattle.book_operations.proofs.Added.{added-lowest, first-not_lowest, shows-not_lowest}
use Rattle.book_operations.proofs.LostPairs.{read-name}
use Rattle.book_operations.proofs.Refusals.{of_read}
use Rattle.book_operations.proofs.augmentation.keep_lowest.Goals as goal

pub returns-in-Some-clause-err : goal.returns-in-Some-clause-err
returns-in-Some-clause-err c =
    let parent = c.args.parent.now in
    let child = c.args.child.now in
    let images = c.args.images.now in
    let raised = of_read (λ rs os. IsFirstPair (length rs) (length images) (IsRaised rs os c.order.result images) c.in-Some.new c.in-Some.old) _ _ child.rules parent.rules c.as_slice-rules.ensures c.as_slice-others.ensures c.in-Some.ensures in
    let first = first-not_lowest parent child images c.requires.images c.order.result c.order.ensures.size c.order.ensures.closure c.in-Some.new c.in-Some.old raised in
    record {
      new = c.in-Some.new;
      old = c.in-Some.old;
      first = first;
      new_name = read-name c.as_slice-rules.result.now child.rules c.in-Some.new c.index-rules-new.result c.as_slice-rules.ensures first.row;
      old_name = read-name c.as_slice-others.result.now parent.rules c.in-Some.old c.index-others-old.result c.as_slice-others.ensures first.column.inside;
      new_alone = c.in_ok-one_at.ensures ∙ ap (λ (rs : List Rule). one_at (length rs) c.in-Some.new) c.as_slice-rules.ensures;
      old_alone = c.in_ok-one_at-2.ensures ∙ ap (λ (rs : List Rule). one_at (length rs) (slice_index images c.in-Some.old)) c.as_slice-rules.ensures ∙ ap (λ i. one_at (size_of child) i) (c.requires.images.places c.in-Some.old first.column.inside);
    }

pub returns-in-Some-clause-shows : goal.returns-in-Some-clause-shows
returns-in-Some-clause-shows c =
    let parent = c.args.parent.now in
    let child = c.args.child.now in
    let images = c.args.images.now in
    let raised = of_read (λ rs os. IsFirstPair (length rs) (length images) (IsRaised rs os c.order.result images) c.in-Some.new c.in-Some.old) _ _ child.rules parent.rules c.as_slice-rules.ensures c.as_slice-others.ensures c.in-Some.ensures in
    let first = first-not_lowest parent child images c.requires.images c.order.result c.order.ensures.size c.order.ensures.closure c.in-Some.new c.in-Some.old raised in
    let new_alone = c.in_ok-one_at.ensures ∙ ap (λ (rs : List Rule). one_at (length rs) c.in-Some.new) c.as_slice-rules.ensures in
    let old_alone = c.in_ok-one_at-2.ensures ∙ ap (λ (rs : List Rule). one_at (length rs) (slice_index images c.in-Some.old)) c.as_slice-rules.ensures ∙ ap (λ i. one_at (size_of child) i) (c.requires.images.places c.in-Some.old first.column.inside) in
    let shown = shows-not_lowest parent child c.requires.parent c.requires.child c.requires.kept c.order.result c.order.ensures.size c.order.ensures.closure c.in-Some.new c.in-Some.old first.row first.column.inside first.column.holds in
    subst (λ x. LosesCarried parent child x c.in_ok-one_at-2.field-0) (sym new_alone)
    (subst (λ y. LosesCarried parent child (one_at (size_of child) c.in-Some.new) y) (sym old_alone) shown)

pub returns-clause-ok : goal.returns-clause-ok
returns-clause-ok c =
    let parent = c.args.parent.now in
    let child = c.args.child.now in
    let images = c.args.images.now in
    added-lowest parent child images c.requires.images c.order.result c.order.ensures.size c.order.ensures.closure
    (of_read (λ rs os. (new old : ℕ) → new < length rs → old < length images → ¬ IsRaised rs os c.order.result images new old) _ _ child.rules parent.rules c.as_slice-rules.ensures c.as_slice-others.ensures c.in_default.ensures)
