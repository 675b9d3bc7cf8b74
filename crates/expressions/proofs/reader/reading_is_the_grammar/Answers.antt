use Rattle.expressions.proofs.Texts.{spelled, is_read}
use Rattle.expressions.proofs.reader.reading_is_the_grammar.Goals as goal

pub returns : goal.returns
returns c = λ ws e. (spelled ws e, is_read ws e)
