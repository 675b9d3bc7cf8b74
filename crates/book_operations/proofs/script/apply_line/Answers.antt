use Rattle.std.proofs.Common.{◌∙◌, ap, Ok}
use Rattle.book_operations.proofs.Children.{over-child}
use Rattle.book_operations.proofs.script.apply_line.Goals as goal

pub returns-clause-keeps : goal.returns-clause-keeps
returns-clause-keeps c = over-child c.args.number c.args.len c.args.text.now c.args.book.now c.in-Some.child c.requires (c.in_ok-child.ensures.exact ∙ ap (λ o. Ok o) c.in-Some.is) c.in_ok-test_kind.ensures.accepts c.in_ok-test_kind.ensures.keeps
