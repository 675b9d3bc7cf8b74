-- The parts that the code keeps, as the decimal that they are, and how long they are.
use Rattle.std.specs.Prelude.{ℕ, ◌+◌, ◌≤◌, ◌++◌, List, length}
use Rattle.fixed_decimal.specs.declared.parts.Parts.{Parts}
use Rattle.fixed_decimal.specs.declared.digits.Digits.{Digits}
use Rattle.fixed_decimal.specs.Decimals.{Decimal, IsDigits}
use Rattle.fixed_decimal.specs.declared.limits.TheConstants.{MAX_BYTES}

-- the decimal that the parts are
abbrev pub as_decimal : Parts → Decimal
as_decimal p = record {
  negative = p.negative;
  whole_part = p.whole_part.now;
  fraction = p.fraction.now;
  exponent_negative = p.exponent_negative;
  exponent = p.exponent.now;
}

-- the digits of a decimal whose text is short enough
pub record IsShort (d : Decimal) : Type 0 where
  pub whole_part : IsDigits d.whole_part
  pub fraction : IsDigits d.fraction
  pub exponent : IsDigits d.exponent
  pub digits : length d.whole_part + length d.fraction ≤ MAX_BYTES
  pub exponent_size : length d.exponent ≤ MAX_BYTES

-- the digits of both pieces, one behind the other
unfoldable pub all_digits : Digits → List ℕ
all_digits d = d.front.now ++ d.back.now

-- two pieces of digits, no more than a text has bytes
pub record IsNumeral (d : Digits) : Type 0 where
  pub front : IsDigits d.front.now
  pub back : IsDigits d.back.now
  pub short : length d.front.now + length d.back.now ≤ MAX_BYTES
