use Rattle.reading.specs.Words.{words}
use Rattle.book_operations.proofs.Children.{made-is-book}
use Rattle.book_operations.proofs.script.text_child.Goals as goal

pub returns-clause-sound : goal.returns-clause-sound
returns-clause-sound c = made-is-book c.words_child.result c.args.number (words c.args.text.now) c.args.book.now c.requires c.words_child.ensures.exact
