-- The bytes of an expression's text that are no letters and digits.
use Rattle.std.specs.Prelude.{ℕ}

abbrev pub plus_sign : ℕ
plus_sign = 43

abbrev pub times_sign : ℕ
times_sign = 42

abbrev pub open_bracket : ℕ
open_bracket = 40

abbrev pub close_bracket : ℕ
close_bracket = 41
