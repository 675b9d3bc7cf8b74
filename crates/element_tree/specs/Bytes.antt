-- White space, name bytes, and marks in bytes (a profile of CommonRoad XML, this project's own).
use Rattle.std.specs.Prelude.{ℕ, ◌+◌, Bool, false, ◌&&◌, ◌||◌, not, List, [], ◌∷◌, length, drop}
use Rattle.std.specs.Prelude.{Option, Some, None, option_map, ◌==◌, nat_eq, nat_le, if◌then◌else◌}
use Rattle.std.specs.List.{position_or_len, starts_with}
use Rattle.std.specs.Char.{is_ascii_digit}
use Rattle.reading.specs.Bytes.{tab, line_feed, space, minus_sign}

abbrev pub carriage_return : ℕ
carriage_return = 13

abbrev pub double_quote : ℕ
double_quote = 34

abbrev pub single_quote : ℕ
single_quote = 39

abbrev pub full_stop : ℕ
full_stop = 46

abbrev pub colon : ℕ
colon = 58

abbrev pub less_sign : ℕ
less_sign = 60

abbrev pub equals_sign : ℕ
equals_sign = 61

abbrev pub greater_sign : ℕ
greater_sign = 62

abbrev pub underscore : ℕ
underscore = 95

-- of the bytes of a character beyond ASCII the least
abbrev pub past_ascii : ℕ
past_ascii = 128

-- what may stand at the front of a document in UTF-8
abbrev pub byte_order_mark : List ℕ
byte_order_mark = 239 ∷ 187 ∷ 191 ∷ []

abbrev pub is_space : ℕ → Bool
is_space b = b == space || b == tab || b == line_feed || b == carriage_return

-- `A` to `Z` or `a` to `z`
abbrev pub is_letter : ℕ → Bool
is_letter b = (nat_le 65 b && nat_le b 90) || (nat_le 97 b && nat_le b 122)

-- the first byte of a name
abbrev pub is_start : ℕ → Bool
is_start b = is_letter b || b == underscore || b == colon || nat_le past_ascii b

-- a byte of a name
abbrev pub is_part : ℕ → Bool
is_part b = is_start b || is_ascii_digit b || b == minus_sign || b == full_stop

abbrev pub is_name_end : ℕ → Bool
is_name_end b = not (is_part b)

abbrev pub is_ink : ℕ → Bool
is_ink b = not (is_space b)

abbrev pub is_open : ℕ → Bool
is_open b = b == less_sign

abbrev pub is_quote : ℕ → Bool
is_quote b = b == double_quote || b == single_quote

abbrev pub skip_space : List ℕ → List ℕ
skip_space bytes = drop (position_or_len is_ink bytes) bytes

-- how many bytes there are up to the end of the first such text
unfoldable pub len_to : List ℕ → List ℕ → Option ℕ
len_to mark [] = None
len_to mark (b ∷ bytes) =
    if starts_with nat_eq (b ∷ bytes) mark then Some (length mark)
    else option_map (λ n. n + 1) (len_to mark bytes)

-- the quote that is open after a byte, if one is
abbrev pub quote_after : Option ℕ → ℕ → Option ℕ
quote_after None b = if is_quote b then Some b else None
quote_after (Some quote) b = if b == quote then None else Some quote

-- a tag's end, which stands outside quotes
abbrev pub is_close : Option ℕ → ℕ → Bool
is_close None b = b == greater_sign
is_close (Some quote) b = false

-- how many bytes there are up to the first `>` outside quotes, where one quote may be open
unfoldable pub len_to_close : Option ℕ → List ℕ → Option ℕ
len_to_close quote [] = None
len_to_close quote (b ∷ bytes) =
    if is_close quote b then Some 1
    else option_map (λ n. n + 1) (len_to_close (quote_after quote b) bytes)
