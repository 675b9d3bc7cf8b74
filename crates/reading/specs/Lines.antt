-- What the lines of some bytes are. This project's own.
use Rattle.std.specs.Prelude.{ℕ, List, Bool, ◌==◌, if◌then◌else◌, is_some}
use Rattle.std.specs.List.{before_first, after_first, position}
use Rattle.std.specs.Str.Lines.{strip_carriage_return, lines}
use Rattle.reading.specs.Bytes.{line_feed}

abbrev pub is_feed : ℕ → Bool
is_feed b = b == line_feed

-- the first line without its end, which is a line feed with the carriage return before it;
-- the last line may lack its end
unfoldable pub first_line : List ℕ → List ℕ
first_line bytes =
    if is_some (position is_feed bytes) then strip_carriage_return (before_first is_feed bytes)
    else bytes

-- the bytes after the first line
unfoldable pub after_line : List ℕ → List ℕ
after_line bytes = after_first is_feed bytes

-- the lines of some bytes, without their ends
unfoldable pub lines_of : List ℕ → List (List ℕ)
lines_of bytes = lines bytes
