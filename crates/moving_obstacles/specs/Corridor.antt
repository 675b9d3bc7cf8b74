-- What lies beside the way ahead, told without a division: this project's own.
use Rattle.std.specs.Prelude.{◌⊎◌, ℤ, pos, neg_ℤ, ◌+ℤ◌, ◌*ℤ◌, ◌≤ℤ◌}
use Rattle.fixed_geometry.specs.declared.limits.TheConstants.{MICROS_PER_UNIT}

-- in millionths: one unit more than the width to the left, or to the right
abbrev pub IsFarBeside : ℤ → ℤ → Type 0
IsFarBeside aside width =
    ((pos MICROS_PER_UNIT *ℤ (width +ℤ pos 1)) ≤ℤ aside)
    ⊎ (aside ≤ℤ neg_ℤ (pos MICROS_PER_UNIT *ℤ (width +ℤ pos 1)))
