use Rattle.std.proofs.Common.{◌∙◌}
use Rattle.fixed_decimal.proofs.FixedLaws.{fixed_spelled, fixed_answer, fixed_range, fixed_nearest}
use Rattle.fixed_decimal.proofs.parse_fixed.Goals as goal

pub returns-clause-decimal : goal.returns-clause-decimal
returns-clause-decimal c = λ short d s. c.fixed.ensures ∙ fixed_spelled c.args.text.now c.args.places d short s

pub returns-clause-answer : goal.returns-clause-answer
returns-clause-answer c = rw c.fixed.ensures (fixed_answer c.args.text.now c.args.places)

pub returns-clause-range : goal.returns-clause-range
returns-clause-range c = rw c.fixed.ensures (fixed_range c.args.text.now c.args.places)

pub returns-clause-nearest : goal.returns-clause-nearest
returns-clause-nearest c = rw c.fixed.ensures (fixed_nearest c.args.text.now c.args.places)
