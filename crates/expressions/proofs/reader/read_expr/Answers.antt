use Rattle.reading.specs.Words.{words}
use Rattle.expressions.proofs.Texts.{refused}
use Rattle.expressions.proofs.reader.read_expr.Goals as goal

pub returns-clause-syntax : goal.returns-clause-syntax
returns-clause-syntax c = refused (words c.args.text.now) c.read_spelled.result (λ e k. c.read_spelled.ensures.each_text e (rw (c.as_slice.ensures.value, c.in_ok-words.ensures) k))
