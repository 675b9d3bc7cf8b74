-- What the words of a line are, and which words are numbers. This project's own.
use Rattle.std.specs.Prelude.{ℕ, Bool, ◌&&◌, ◌||◌, not, List, length, filter, ◌==◌}
use Rattle.std.specs.Prelude.{if◌then◌else◌, Option, Some, None}
use Rattle.std.specs.List.{slice_split, list_all}
use Rattle.std.specs.Char.{is_ascii_digit}
use Rattle.std.specs.Str.Parse.{digits_value}
use Rattle.reading.specs.Bytes.{space, tab}

-- a space or a tab
abbrev pub is_blank : ℕ → Bool
is_blank b = b == space || b == tab

abbrev pub is_word : List ℕ → Bool
is_word w = not (length w == 0)

-- the words of a line, in order
unfoldable pub words : List ℕ → List (List ℕ)
words line = filter is_word (slice_split is_blank line)

-- the number that a word of digits is
unfoldable pub number_of : List ℕ → Option ℕ
number_of word =
    if is_word word && list_all is_ascii_digit word then Some (digits_value 10 word) else None
