-- A named vector as a line. This project's own.
use Rattle.std.specs.Prelude.{ℕ, List, [], ◌∷◌, ◌++◌}
use Rattle.std.specs.List.{flat_map}
use Rattle.std.specs.Fmt.{decimal}
use Rattle.reading.specs.Bytes.{line_feed, space}

-- a word behind a space
abbrev pub word : List ℕ → List ℕ
word text = space ∷ text

-- a number behind a space, in decimal without leading zeros
abbrev pub cell : ℕ → List ℕ
cell value = word (decimal value)

abbrev pub cells : List ℕ → List ℕ
cells values = flat_map cell values

-- `NAME V1 .. Vn` and a line feed
abbrev pub row_line : List ℕ → List ℕ → List ℕ
row_line name values = name ++ (cells values ++ line_feed ∷ [])
