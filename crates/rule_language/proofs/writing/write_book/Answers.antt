use Rattle.std.proofs.Common.{rules, ◌≡◌, ℕ, List, Ok, sym, subst}
use Rattle.rule_language.specs.Books.{book_of}
use Rattle.rule_language.specs.Writing.{book_text}
use Rattle.rule_language.proofs.BookLaw.{book_again}
use Rattle.rule_language.proofs.writing.write_book.Goals as goal

pub returns-clause-read_again : goal.returns-clause-read_again
returns-clause-read_again c =
    let text : c.push_statements.new.out.items ≡ book_text c.args.book.now = search rules in
    subst (λ (t : List ℕ). book_of t ≡ Ok c.args.book.now) (sym text) (book_again c.args.book.now c.requires)
