use Rattle.std.proofs.Common.{List, subst, sym}
use Rattle.std.specs.Prelude.{All}
use Rattle.rule_language.specs.declared.book.Rule.{Rule}
use Rattle.violation_measures.specs.Binding.{IsBookRule, RuleMayBind}
use Rattle.violation_measures.proofs.FirstFault.{book_rules, bound_book}
use Rattle.violation_measures.proofs.bound.binding.bind.Goals as goal

pub test_rules-requires : goal.test_rules-requires
test_rules-requires g c = subst (λ (rules : List Rule). All IsBookRule rules) (sym c.as_slice.ensures) (book_rules c.args.book.now c.requires)

pub returns-clause-bound : goal.returns-clause-bound
returns-clause-bound g c =
    let f = g.S.FeatureSource.features c.args.source.now in
    bound_book f c.args.book.now _ c.requires
    (subst (λ (rules : List Rule). All (RuleMayBind f) rules) c.as_slice.ensures c.in_ok-test_rules.ensures.ok) c.in_ok-resolve_book.ensures
