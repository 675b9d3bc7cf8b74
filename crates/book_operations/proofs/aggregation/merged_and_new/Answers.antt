use Rattle.std.proofs.Common.{inl, inr, sym, ap, arith}
use Rattle.std.proofs.lemmas.List.{get_or_default}
use Rattle.rule_language.specs.Books.{nameless}
use Rattle.rule_language.specs.declared.book.Rule.{Rule}
use Rattle.book_operations.specs.Images.{is_new}
use Rattle.book_operations.proofs.Merged.{first-changed, none-changed, no-two, no-two-none}
use Rattle.book_operations.proofs.Placed.{none-new, position-first}
use Rattle.book_operations.proofs.aggregation.merged_and_new.Goals as goal

pub returns-in_default-clause-err : goal.returns-in_default-clause-err
returns-in_default-clause-err c =
    let rules = c.args.rules.now in
    let none = none-new rules c.args.others.now (sym c.in_default.ensures.exact) in
    inl (inl (no-two-none rules c.args.others.now none), inr (none, ap (λ (r : Rule). r.name) (get_or_default rules 0 c.index-rules-0.result nameless (omega (arith, c.requires.some)))))

pub returns-in_default-first_new-clause-err : goal.returns-in_default-first_new-clause-err
returns-in_default-first_new-clause-err c =
    let rules = c.args.rules.now in
    let others = c.args.others.now in
    let first = position-first (is_new others) rules c.in-Some.merged (sym c.in-Some.ensures.exact) in
    inl (inr (none-new others rules (sym c.in_default-first_new.ensures.exact)), inl (c.in-Some.merged, first, ap (λ (r : Rule). r.name) (get_or_default rules c.in-Some.merged c.index-rules-merged.result nameless first.inside)))

pub returns-in_default-next_new-clause-err : goal.returns-in_default-next_new-clause-err
returns-in_default-next_new-clause-err c =
    let rules = c.args.rules.now in
    let others = c.args.others.now in
    let first = position-first (is_new others) rules c.in-Some.merged (sym c.in-Some.ensures.exact) in
    inl (inl (no-two rules others c.in-Some.merged first c.in_default-next_new.ensures), inl (c.in-Some.merged, first, ap (λ (r : Rule). r.name) (get_or_default rules c.in-Some.merged c.index-rules-merged-in_default-next_new.result nameless first.inside)))

pub returns-in-Some-next_new-2-clause-err : goal.returns-in-Some-next_new-2-clause-err
returns-in-Some-next_new-2-clause-err c =
    let rules = c.args.rules.now in
    let others = c.args.others.now in
    let first = position-first (is_new others) rules c.in-Some.merged (sym c.in-Some.ensures.exact) in
    let new = position-first (is_new rules) others c.in-Some-first_new.new (sym c.in-Some-first_new.ensures.exact) in
    let other = c.in-Some-next_new.ensures in
    let second = c.in-Some-next_new-2.ensures in
    inr (inl (
      (c.in-Some.merged, c.in-Some-next_new._other, other.holds.0, other.inside, first.holds, other.holds.1),
      (c.in-Some-first_new.new, c.in-Some-next_new-2.second, new, second, ap (λ (r : Rule). r.name) (get_or_default others c.in-Some-next_new-2.second c.index-others-second.result nameless second.inside)),
    ))

pub returns-in-Some-first_changed-clause-err : goal.returns-in-Some-first_changed-clause-err
returns-in-Some-first_changed-clause-err c =
    let rules = c.args.rules.now in
    let others = c.args.others.now in
    let first = position-first (is_new others) rules c.in-Some.merged (sym c.in-Some.ensures.exact) in
    let new = position-first (is_new rules) others c.in-Some-first_new.new (sym c.in-Some-first_new.ensures.exact) in
    let other = c.in-Some-next_new.ensures in
    let changed = first-changed rules others c.in-Some-first_changed.changed (sym c.in-Some-first_changed.ensures.exact) in
    inr (inr (
      (c.in-Some.merged, c.in-Some-next_new._other, other.holds.0, other.inside, first.holds, other.holds.1),
      record { new = c.in-Some-first_new.new; first = new; alone = c.in_default-next_new-2.ensures },
      (c.in-Some-first_changed.changed, changed, ap (λ (r : Rule). r.name) (get_or_default rules c.in-Some-first_changed.changed c.index-rules-changed.result nameless changed.inside)),
    ))

pub returns-clause-ok : goal.returns-clause-ok
returns-clause-ok c =
    let rules = c.args.rules.now in
    let others = c.args.others.now in
    let first = position-first (is_new others) rules c.in-Some.merged (sym c.in-Some.ensures.exact) in
    let new = position-first (is_new rules) others c.in-Some-first_new.new (sym c.in-Some-first_new.ensures.exact) in
    let other = c.in-Some-next_new.ensures in
    record {
      merged = (c.in-Some.merged, c.in-Some-next_new._other, other.holds.0, other.inside, first.holds, other.holds.1);
      new = record { new = c.in-Some-first_new.new; first = new; alone = c.in_default-next_new-2.ensures };
      kept = none-changed rules others (sym c.in_default-first_changed.ensures.exact);
    }

pub returns-clause-merged : goal.returns-clause-merged
returns-clause-merged c = position-first (is_new c.args.others.now) c.args.rules.now c.in-Some.merged (sym c.in-Some.ensures.exact)
