use Rattle.std.proofs.Common.{◌∙◌, sym, ap}
use Rattle.std.proofs.lemmas.Bool.{both_ways}
use Rattle.rule_language.specs.declared.book.Rule.{Rule}
use Rattle.book_operations.specs.Aggregation.{new_rule}
use Rattle.book_operations.specs.Images.{rule_at}
use Rattle.book_operations.proofs.LostPairs.{read-rule}
use Rattle.book_operations.proofs.Summands.{distinct, weighs, sums-read, sum-from, sum-to}
use Rattle.book_operations.proofs.aggregation.keep_sum.Goals as goal

pub returns-clause-ok : goal.returns-clause-ok
returns-clause-ok c =
    let parent = c.args.parent.now in
    let child = c.args.child.now in
    let is = c.index-as_slice-new.is ∙ read-rule c.as_slice.result.now child.rules c.args.new c.index-as_slice-new.result c.as_slice.ensures c.requires.inside ∙ ap (rule_at child.rules) c.requires.new in
    let parts = c.as_slice-4.ensures ∙ ap (λ (r : Rule). r.parts) is in
    sum-from child.rules parent.rules (new_rule parent child).parts (distinct parent.rules c.requires.parent.different)
    (sym (sums-read c.as_slice-2.result.now child.rules c.as_slice-3.result.now parent.rules c.as_slice-4.result.now (new_rule parent child).parts c.as_slice-2.ensures c.as_slice-3.ensures parts) ∙ sym c.if-not-sums_up.ensures)

pub returns-then-not-sums_up-clause-err : goal.returns-then-not-sums_up-clause-err
returns-then-not-sums_up-clause-err c =
    let parent = c.args.parent.now in
    let child = c.args.child.now in
    let is = c.index-as_slice-new.is ∙ read-rule c.as_slice.result.now child.rules c.args.new c.index-as_slice-new.result c.as_slice.ensures c.requires.inside ∙ ap (rule_at child.rules) c.requires.new in
    let parts = c.as_slice-4.ensures ∙ ap (λ (r : Rule). r.parts) is in (
      λ times sum. both_ways _ (sym c.if-not-sums_up.ensures)
          (sums-read c.as_slice-2.result.now child.rules c.as_slice-3.result.now parent.rules c.as_slice-4.result.now (new_rule parent child).parts c.as_slice-2.ensures c.as_slice-3.ensures parts
          ∙ sum-to child.rules parent.rules times (new_rule parent child).parts (weighs parent.rules c.requires.parent.rules) sum),
      ap (λ (r : Rule). r.name) is,
    )
