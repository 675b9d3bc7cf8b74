use Rattle.fixed_decimal.specs.Parts.{all_digits}
use Rattle.std.proofs.Common.{◌≡◌, ◌≤◌, take}
use Rattle.fixed_decimal.specs.Rounding.{number}
use Rattle.fixed_decimal.proofs.digits.Digits.leading.Given as goal
use Rattle.fixed_decimal.specs.declared.limits.TheConstants.{MAX_VALUE}

abbrev pub invariant-loop-i : goal.invariant-loop-i
invariant-loop-i l = (l.value ≡ number (take l.i (all_digits l.self))) × (l.value ≤ MAX_VALUE)
