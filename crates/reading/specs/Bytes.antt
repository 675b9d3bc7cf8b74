-- The bytes that stand between words and lines, and those that several formats write alike.
use Rattle.std.specs.Prelude.{ℕ}

abbrev pub tab : ℕ
tab = 9

abbrev pub line_feed : ℕ
line_feed = 10

abbrev pub space : ℕ
space = 32

abbrev pub hash : ℕ
hash = 35

abbrev pub comma : ℕ
comma = 44

abbrev pub minus_sign : ℕ
minus_sign = 45

abbrev pub zero_digit : ℕ
zero_digit = 48
