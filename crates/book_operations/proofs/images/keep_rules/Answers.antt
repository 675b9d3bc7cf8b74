use Rattle.std.proofs.Common.{sym, ap}
use Rattle.std.proofs.lemmas.List.{get_or_default}
use Rattle.rule_language.specs.Books.{nameless}
use Rattle.rule_language.specs.declared.book.Rule.{Rule}
use Rattle.book_operations.proofs.Placed.{all-equal, first-unequal}
use Rattle.book_operations.proofs.images.keep_rules.Goals as goal

pub returns-in-Some-clause-err : goal.returns-in-Some-clause-err
returns-in-Some-clause-err c =
    let first = first-unequal c.args.rules.now c.args.others.now c.in-Some.place (sym c.in-Some.ensures.exact) in
    (c.in-Some.place, first, ap (λ (r : Rule). r.name) (get_or_default c.args.rules.now c.in-Some.place c.index-rules-place.result nameless first.inside))

pub returns-in-None-clause-ok : goal.returns-in-None-clause-ok
returns-in-None-clause-ok c = all-equal c.args.rules.now c.args.others.now (sym c.in-None.ensures.exact)
