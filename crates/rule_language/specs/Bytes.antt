-- The bytes of a file of lines that are told from all others.
use Rattle.std.specs.Prelude.{ℕ, Bool, ◌==◌}
use Rattle.reading.specs.Bytes.{hash, zero_digit}

abbrev pub is_hash : ℕ → Bool
is_hash b = b == hash

abbrev pub is_zero_digit : ℕ → Bool
is_zero_digit b = b == zero_digit
