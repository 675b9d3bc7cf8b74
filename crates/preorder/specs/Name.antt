-- What a name is. This project's own.
use Rattle.std.specs.Prelude.{ℕ, ◌-◌, List, ◌++◌, Bool, slice_index, nat_lt, ◌||◌, ◌&&◌, ◌==◌}
use Rattle.std.specs.Prelude.{nat_le, length, replicate}
use Rattle.std.specs.Char.{is_ascii_alphabetic, is_ascii_digit}
use Rattle.std.specs.List.{list_all}
use Rattle.preorder.specs.declared.limits.TheConstants.{MAX_NAME}

abbrev pub underscore : ℕ
underscore = 95

-- `A` to `Z`, `a` to `z`, or `_`
abbrev pub is_letter : ℕ → Bool
is_letter b = is_ascii_alphabetic b || b == underscore

-- a letter, or `0` to `9`
abbrev pub is_name_byte : ℕ → Bool
is_name_byte b = is_letter b || is_ascii_digit b

-- A name: 1 to `MAX_NAME` bytes, a letter and then letters and digits.
unfoldable pub is_name : List ℕ → Bool
is_name text =
    nat_lt 0 (length text)
    && (nat_le (length text) MAX_NAME
    && (is_letter (slice_index text 0) && list_all is_name_byte text))

-- the text, and zeros up to `MAX_NAME` bytes
abbrev pub filled : List ℕ → List ℕ
filled text = text ++ replicate (MAX_NAME - length text) 0
