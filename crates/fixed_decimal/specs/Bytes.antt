-- The bytes of a decimal's text.
use Rattle.std.specs.Prelude.{ℕ}

abbrev pub plus_sign : ℕ
plus_sign = 43

abbrev pub minus_sign : ℕ
minus_sign = 45

abbrev pub point : ℕ
point = 46

abbrev pub zero_digit : ℕ
zero_digit = 48

abbrev pub capital_e : ℕ
capital_e = 69

abbrev pub small_e : ℕ
small_e = 101
