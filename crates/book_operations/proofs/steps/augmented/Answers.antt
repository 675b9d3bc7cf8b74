use Rattle.std.proofs.lemmas.Bool.{false≢true}
use Rattle.book_operations.proofs.Lines.{augment-nameless}
use Rattle.book_operations.proofs.steps.augmented.Goals as goal

pub returns-in_default : goal.returns-in_default
returns-in_default c = augment-nameless c.args.number c.args.name.now c.args.weight.now _ c.args.book.now (λ is. false≢true (c.in_default.ensures.name.1 is))
