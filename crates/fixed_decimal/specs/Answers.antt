-- What parse_fixed answers, and what an answer says of the text.
use Rattle.std.specs.Prelude.{ℕ, ◌≡◌, ◌<◌, ◌≤◌, ◌⊎◌, Bool, not, ◌||◌, nat_lt, if◌then◌else◌}
use Rattle.std.specs.Prelude.{List, length, ℤ, Result, Ok, Err}
use Rattle.fixed_decimal.specs.declared.DecimalFault.{DecimalFault}
use Rattle.fixed_decimal.specs.declared.DecimalFault.TheVariants.{TooLong, Malformed, OutOfRange}
use Rattle.fixed_decimal.specs.Decimals.{Decimal, Spells}
use Rattle.fixed_decimal.specs.Rounding.{number, size, value}
use Rattle.fixed_decimal.specs.Reading.{decimal_of, is_decimal}
use Rattle.fixed_decimal.specs.declared.limits.TheConstants.{MAX_BYTES, MAX_EXPONENT, MAX_VALUE}

-- the exponent or the value is too large
unfoldable pub is_out_of_range : Decimal → ℕ → Bool
is_out_of_range d places =
    nat_lt MAX_EXPONENT (number d.exponent) || nat_lt MAX_VALUE (size d places)

-- the answer to a decimal
unfoldable pub rounded : Decimal → ℕ → Result ℤ DecimalFault
rounded d places = if is_out_of_range d places then Err OutOfRange else Ok (value d places)

-- the answer to a text
unfoldable pub fixed : List ℕ → ℕ → Result ℤ DecimalFault
fixed text places =
    if nat_lt MAX_BYTES (length text) then Err TooLong
    else if not (is_decimal text) then Err Malformed
    else rounded (decimal_of text) places

-- what an answer says of the text and of the decimal that it spells
abbrev pub IsAnswer : List ℕ → ℕ → Result ℤ DecimalFault → Type 0
IsAnswer text places (Err TooLong) = MAX_BYTES < length text
IsAnswer text places (Err Malformed) = (length text ≤ MAX_BYTES) × ((d : Decimal) → ¬ Spells text d)
IsAnswer text places (Err OutOfRange) =
    (length text ≤ MAX_BYTES)
    × ((d : Decimal) × Spells text d
    × ((MAX_EXPONENT < number d.exponent) ⊎ (MAX_VALUE < size d places)))
IsAnswer text places (Ok n) =
    (length text ≤ MAX_BYTES)
    × ((d : Decimal) × Spells text d × (number d.exponent ≤ MAX_EXPONENT)
    × (size d places ≤ MAX_VALUE) × (n ≡ value d places))
