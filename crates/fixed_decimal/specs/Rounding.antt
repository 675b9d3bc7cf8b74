-- A decimal's value in a unit of 10 to the minus places, rounded to the nearest whole number,
-- halves away from 0: this project's own rule, said by whole numbers alone.
use Rattle.std.specs.Prelude.{ℕ, suc, ◌+◌, ◌-◌, ◌*◌, ◌/◌, ◌^◌, ◌<◌, ◌≤◌, ◌≡◌, Bool, true, false}
use Rattle.std.specs.Prelude.{List, ◌++◌, length, ℤ, pos, negsuc, neg_ℤ, ◌+ℤ◌, ◌-ℤ◌}
use Rattle.std.specs.Prelude.{Option, MatchOption}
use Rattle.std.specs.List.{fold}
use Rattle.fixed_decimal.specs.Bytes.{zero_digit}
use Rattle.fixed_decimal.specs.Decimals.{Decimal}

-- digits as one whole number
unfoldable pub number : List ℕ → ℕ
number digits = fold (λ (n b : ℕ). n * 10 + (b - zero_digit)) 0 digits

-- n / d to the nearest whole number, halves up
unfoldable pub halves_up : ℕ → ℕ → ℕ
halves_up n d = (2 * n + d) / (2 * d)

-- n times 10 to the k, to the nearest whole number, halves up
unfoldable pub scaled : ℕ → ℤ → ℕ
scaled n (pos k) = n * 10 ^ k
scaled n (negsuc k) = halves_up n (10 ^ suc k)

-- the number of this sign and size
abbrev pub signed : Bool → ℕ → ℤ
signed true n = neg_ℤ (pos n)
signed false n = pos n

-- the power of 10 by which all digits as one number count:
-- the exponent, less the number of digits after the point, and the places
unfoldable pub power : Decimal → ℕ → ℤ
power d places =
    signed d.exponent_negative (number d.exponent) -ℤ pos (length d.fraction) +ℤ pos places

-- the size of the value
unfoldable pub size : Decimal → ℕ → ℕ
size d places = scaled (number (d.whole_part ++ d.fraction)) (power d places)

-- the value: the sign is the text's, so that halves are rounded away from 0
unfoldable pub value : Decimal → ℕ → ℤ
value d places = signed d.negative (size d places)

-- q is n / d to the nearest whole number, halves up: at most half above it, less than half below it
pub record IsNearest (n d q : ℕ) : Type 0 where
  pub above : 2 * (q * d) ≤ 2 * n + d
  pub below : 2 * n < 2 * (q * d) + d

-- q is n times 10 to the k, to the nearest whole number, halves up
abbrev pub IsRounded : ℕ → ℤ → ℕ → Type 0
IsRounded n (pos k) q = q ≡ n * 10 ^ k
IsRounded n (negsuc k) q = IsNearest n (10 ^ suc k) q

-- the number where it is within the limit, and None exactly where it is above
abbrev pub IsCapped : ℕ → ℕ → Option ℕ → Type 0
IsCapped limit n result = MatchOption result (limit < n) (λ v. (v ≡ n) × (v ≤ limit))
