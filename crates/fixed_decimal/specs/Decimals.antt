-- Decimals and their spelling, [+|-] digits [. digits] [e|E [+|-] digits]: this project's own form.
use Rattle.std.specs.Prelude.{◌≡◌, ◌≢◌, ◌⊎◌, ℕ, Bool, true, false, List, [], ◌++◌, All, codes}
use Rattle.std.specs.Char.{IsAsciiDigit}

-- the parts of a decimal, where digits are bytes from '0' to '9'; no exponent is one of no digits
pub record Decimal : Type 0 where
  pub negative : Bool
  pub whole_part : List ℕ
  pub fraction : List ℕ
  pub exponent_negative : Bool
  pub exponent : List ℕ

-- digits alone, or nothing
abbrev pub IsDigits : List ℕ → Type 0
IsDigits text = All IsAsciiDigit text

-- [+|-] rest
abbrev pub IsSigned : Bool → List ℕ → List ℕ → Type 0
IsSigned true rest text = text ≡ codes "-" ++ rest
IsSigned false rest text = (text ≡ rest) ⊎ (text ≡ codes "+" ++ rest)

-- [. digits]
abbrev pub IsFraction : List ℕ → List ℕ → Type 0
IsFraction digits text = ((text ≡ []) × (digits ≡ [])) ⊎ (text ≡ codes "." ++ digits)

-- e|E [+|-] digits, with at least one digit
pub record IsWrittenExponent (negative : Bool) (digits text : List ℕ) : Type 0 where
  pub signed : List ℕ
  pub letter : (text ≡ codes "e" ++ signed) ⊎ (text ≡ codes "E" ++ signed)
  pub sign : IsSigned negative digits signed
  pub some_digit : digits ≢ []

-- [e|E [+|-] digits]
abbrev pub IsExponent : Bool → List ℕ → List ℕ → Type 0
IsExponent negative digits text =
    ((text ≡ []) × (digits ≡ []) × (negative ≡ false)) ⊎ IsWrittenExponent negative digits text

-- The text spells the decimal. At least one digit stands before or after the point.
pub record Spells (text : List ℕ) (d : Decimal) : Type 0 where
  pub unsigned : List ℕ
  pub point_part : List ℕ
  pub exponent_part : List ℕ
  pub sign : IsSigned d.negative unsigned text
  pub parts : unsigned ≡ d.whole_part ++ point_part ++ exponent_part
  pub point : IsFraction d.fraction point_part
  pub exponent : IsExponent d.exponent_negative d.exponent exponent_part
  pub whole_digits : IsDigits d.whole_part
  pub fraction_digits : IsDigits d.fraction
  pub exponent_digits : IsDigits d.exponent
  pub some_digit : d.whole_part ++ d.fraction ≢ []
