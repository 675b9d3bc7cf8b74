use Rattle.rule_language.proofs.Keeps.{read_is_book}
use Rattle.rule_language.proofs.book.read_book.Goals as goal

pub returns-clause-well_formed : goal.returns-clause-well_formed
returns-clause-well_formed c = read_is_book c.args.bytes.now c.book_of.result c.book_of.ensures.exact
