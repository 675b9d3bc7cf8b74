use Rattle.fixed_decimal.specs.Parts.{all_digits}
use Rattle.std.proofs.Common.{arith, sym, ◌+◌}
use Rattle.fixed_decimal.proofs.Numbers.{number_none, number_fronts, number_more}
use Rattle.fixed_decimal.proofs.digits.Digits.leading.Goals as goal

pub loop-i-init : goal.loop-i-init
loop-i-init c = (sym number_none, omega arith)

pub returns-then-value-gt-MAX_VALUE : goal.returns-then-value-gt-MAX_VALUE
returns-then-value-gt-MAX_VALUE c =
    omega (arith, number_fronts (c.loop-i.i + 1) c.args.count (all_digits c.args.self) (omega arith), number_more (all_digits c.args.self) c.loop-i.i (omega arith), c.from.ensures)
