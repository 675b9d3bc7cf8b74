use Rattle.std.proofs.Common.{◌∙◌, sym, ap, subst, List, length}
use Rattle.rule_language.specs.declared.book.Rule.{Rule}
use Rattle.book_operations.specs.Derivation.{one_at}
use Rattle.book_operations.specs.Tests.{size_of, LosesPreference}
use Rattle.book_operations.proofs.Kept.{preferences-kept}
use Rattle.book_operations.proofs.LostPairs.{pairs-kept, first-lost, read-name}
use Rattle.book_operations.proofs.Shown.{shows-lost}
use Rattle.book_operations.proofs.refinement.keep_pairs.Goals as goal

pub returns-in-Some-clause-err : goal.returns-in-Some-clause-err
returns-in-Some-clause-err c =
    let first = first-lost c.args.parent.now c.args.child.now c.args.images.now c.requires.images c.order.result c.order-2.result c.order.ensures.size c.order-2.ensures.size c.order.ensures.closure c.order-2.ensures.closure c.in-Some.upper c.in-Some.lower c.in-Some.ensures in
    record {
      upper = c.in-Some.upper;
      lower = c.in-Some.lower;
      first = first;
      upper_name = read-name c.as_slice-rules.result.now c.args.parent.now.rules c.in-Some.upper c.index-rules-upper.result c.as_slice-rules.ensures first.row;
      lower_name = read-name c.as_slice-rules.result.now c.args.parent.now.rules c.in-Some.lower c.index-rules-lower.result c.as_slice-rules.ensures first.column.inside;
      lower_alone = c.in_ok-one_at.ensures ∙ ap (λ (rs : List Rule). one_at (length rs) c.in-Some.lower) c.as_slice-rules.ensures;
      upper_alone = c.in_ok-one_at-2.ensures ∙ ap (λ (rs : List Rule). one_at (length rs) c.in-Some.upper) c.as_slice-rules.ensures;
    }

pub returns-clause-ok : goal.returns-clause-ok
returns-clause-ok c = pairs-kept c.args.parent.now c.args.child.now c.args.images.now c.requires.images c.order.result c.order-2.result c.order.ensures.size c.order-2.ensures.size c.order.ensures.closure c.order-2.ensures.closure c.in_default.ensures

pub returns-clause-keeps : goal.returns-clause-keeps
returns-clause-keeps c lowest times counted =
    preferences-kept c.args.parent.now c.args.child.now c.requires.parent c.requires.child c.requires.classes
    (pairs-kept c.args.parent.now c.args.child.now c.args.images.now c.requires.images c.order.result c.order-2.result c.order.ensures.size c.order-2.ensures.size c.order.ensures.closure c.order-2.ensures.closure c.in_default.ensures)
    lowest times counted c.order.result c.order-2.result c.order.ensures.size c.order-2.ensures.size c.order.ensures.closure c.order-2.ensures.closure

pub returns-in-Some-clause-shows : goal.returns-in-Some-clause-shows
returns-in-Some-clause-shows c times counted =
    let parent = c.args.parent.now in
    let child = c.args.child.now in
    let first = first-lost parent child c.args.images.now c.requires.images c.order.result c.order-2.result c.order.ensures.size c.order-2.ensures.size c.order.ensures.closure c.order-2.ensures.closure c.in-Some.upper c.in-Some.lower c.in-Some.ensures in
    let lower_alone = c.in_ok-one_at.ensures ∙ ap (λ (rs : List Rule). one_at (length rs) c.in-Some.lower) c.as_slice-rules.ensures in
    let upper_alone = c.in_ok-one_at-2.ensures ∙ ap (λ (rs : List Rule). one_at (length rs) c.in-Some.upper) c.as_slice-rules.ensures in
    let shown = shows-lost parent child c.requires.child c.requires.classes c.order.result c.order-2.result c.order.ensures.size c.order-2.ensures.size c.order.ensures.closure c.order-2.ensures.closure c.in-Some.upper c.in-Some.lower first.row first.column.inside first.column.holds times counted in
    subst (λ x. LosesPreference parent child times x c.in_ok-one_at-2.field-0) (sym lower_alone)
    (subst (λ y. LosesPreference parent child times (one_at (size_of parent) c.in-Some.lower) y) (sym upper_alone) shown)
