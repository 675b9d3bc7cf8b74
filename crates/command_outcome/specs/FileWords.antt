-- The words of a call, and which of them may name files. This project's own.
use Rattle.std.specs.Prelude.{ℕ, Bool, false, not, ◌&&◌, ◌==◌, List, [], ◌∷◌, map}
use Rattle.std.specs.declared.alloc.Global.{Global}
use Rattle.std.specs.declared.string.String.{String}
use Rattle.std.specs.String.{string_bytes}
use Rattle.std.specs.Str.{bytes_eq}

-- the words as plain texts
abbrev pub texts : List (String Global) → List (List ℕ)
texts words = map string_bytes words

abbrev pub dash : ℕ
dash = 45

-- a word behind a command, as the name of a file, isn't empty and doesn't begin with `-`
abbrev pub is_word : List ℕ → Bool
is_word [] = false
is_word (c ∷ rest) = not (c == dash)

-- the last name is none of the others
abbrev pub is_another : List ℕ → List ℕ → List ℕ → List ℕ → Bool
is_another a b c d = not (bytes_eq d a) && (not (bytes_eq d b) && not (bytes_eq d c))
