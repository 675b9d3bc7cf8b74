-- The decimal that a text spells, read from the left.
use Rattle.std.specs.Prelude.{ℕ, Bool, true, false, not, ◌&&◌, ◌||◌, ◌==◌, if◌then◌else◌}
use Rattle.std.specs.Prelude.{List, [], ◌∷◌, length, drop}
use Rattle.std.specs.List.{take_while, list_all}
use Rattle.std.specs.Char.{is_ascii_digit}
use Rattle.fixed_decimal.specs.Bytes.{plus_sign, minus_sign, point, small_e, capital_e}
use Rattle.fixed_decimal.specs.Decimals.{Decimal}

-- the digits that a text begins with, and what stands behind them
unfoldable pub first_digits : List ℕ → List ℕ
first_digits text = take_while is_ascii_digit text

unfoldable pub after_digits : List ℕ → List ℕ
after_digits text = drop (length (take_while is_ascii_digit text)) text

-- [+|-] at the front of a text
unfoldable pub is_negative : List ℕ → Bool
is_negative [] = false
is_negative (b ∷ rest) = b == minus_sign

unfoldable pub unsigned : List ℕ → List ℕ
unsigned [] = []
unsigned (b ∷ rest) = if b == plus_sign || b == minus_sign then rest else b ∷ rest

-- [. digits] at the front of a text
unfoldable pub fraction : List ℕ → List ℕ
fraction [] = []
fraction (b ∷ rest) = if b == point then first_digits rest else []

unfoldable pub after_fraction : List ℕ → List ℕ
after_fraction [] = []
after_fraction (b ∷ rest) = if b == point then after_digits rest else b ∷ rest

-- at least one digit, and nothing else
unfoldable pub is_number : List ℕ → Bool
is_number digits = not (length digits == 0) && list_all is_ascii_digit digits

-- [e|E [+|-] digits], and nothing else
unfoldable pub is_exponent : List ℕ → Bool
is_exponent [] = true
is_exponent (b ∷ rest) = (b == small_e || b == capital_e) && is_number (unsigned rest)

unfoldable pub exponent_negative : List ℕ → Bool
exponent_negative [] = false
exponent_negative (b ∷ rest) = is_negative rest

unfoldable pub exponent : List ℕ → List ℕ
exponent [] = []
exponent (b ∷ rest) = unsigned rest

-- what stands behind the digits before the point, and behind the digits after it
unfoldable pub after_whole : List ℕ → List ℕ
after_whole text = after_digits (unsigned text)

unfoldable pub exponent_part : List ℕ → List ℕ
exponent_part text = after_fraction (after_whole text)

-- the parts of a text that is a decimal
unfoldable pub decimal_of : List ℕ → Decimal
decimal_of text = record {
  negative = is_negative text;
  whole_part = first_digits (unsigned text);
  fraction = fraction (after_whole text);
  exponent_negative = exponent_negative (exponent_part text);
  exponent = exponent (exponent_part text);
}

abbrev pub lacks_digits : List ℕ → List ℕ → Bool
lacks_digits before after = length before == 0 && length after == 0

-- whether a text is a decimal
unfoldable pub is_decimal : List ℕ → Bool
is_decimal text =
    not (lacks_digits (decimal_of text).whole_part (decimal_of text).fraction)
    && is_exponent (exponent_part text)
