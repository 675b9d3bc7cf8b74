use Rattle.std.proofs.Common.{◌≡◌, ◌≤◌, ◌<◌, ◌*◌, ◌^◌}
use Rattle.fixed_decimal.proofs.digits.with_zeros.Given as goal
use Rattle.fixed_decimal.specs.declared.limits.TheConstants.{MAX_VALUE}

abbrev pub invariant-loop-i : goal.invariant-loop-i
invariant-loop-i l = (l.shifted ≡ l.value * 10 ^ l._i) × (l.shifted ≤ MAX_VALUE) × (0 < l.shifted)
