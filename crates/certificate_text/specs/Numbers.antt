-- The numbers on a line of a certificate, or the first fault. This project's own text.
use Rattle.std.specs.Prelude.{ℕ, Bool, true, false, ◌&&◌, List, [], ◌∷◌, length, Option, Some, None}
use Rattle.std.specs.Prelude.{Result, Ok, Err, ◌==◌, nat_lt, slice_index, if◌then◌else◌, codes}
use Rattle.std.specs.List.{slice_split}
use Rattle.std.specs.Str.{bytes_eq}
use Rattle.reading.specs.Bytes.{space, zero_digit}
use Rattle.reading.specs.Words.{number_of}
use Rattle.reading.specs.Reading.{◌>>=◌, read_each}
use Rattle.certificate_text.specs.declared.fault.CertFault.{CertFault}
use Rattle.certificate_text.specs.declared.fault.CertFault.TheVariants.{Syntax, TooManyLabels}
use Rattle.certificate_text.specs.declared.fault.CertFault.TheVariants.{NoMemory}
use Rattle.certificate_text.specs.declared.TheConstants.{MAX_LABELS, PAST_NUMBERS}

-- the one fault that may come at any time
abbrev pub is_memory : CertFault → Bool
is_memory NoMemory = true
is_memory _ = false

abbrev pub has_leading_zero : List ℕ → Bool
has_leading_zero w = nat_lt 1 (length w) && slice_index w 0 == zero_digit

abbrev pub below_limit : ℕ → List ℕ → Option ℕ → Result ℕ CertFault
below_limit n w None = Err (Syntax n)
below_limit n w (Some v) =
    if has_leading_zero w then Err (Syntax n) else if nat_lt v PAST_NUMBERS then Ok v
    else Err (Syntax n)

-- a word on line n: digits without a leading zero, whose value is below `PAST_NUMBERS`
unfoldable pub number_on : ℕ → List ℕ → Result ℕ CertFault
number_on n w = below_limit n w (number_of w)

abbrev pub is_space : ℕ → Bool
is_space b = b == space

-- what stands between the spaces of a line
abbrev pub parts : List ℕ → List (List ℕ)
parts line = slice_split is_space line

-- line n: numbers, or nothing
unfoldable pub numbers_on : ℕ → List ℕ → Result (List ℕ) CertFault
numbers_on n line = if length line == 0 then Ok [] else read_each (number_on n) (parts line)

-- line n: two numbers
unfoldable pub pair_on : ℕ → List (List ℕ) → Result (ℕ × ℕ) CertFault
pair_on n (a ∷ b ∷ []) = number_on n a >>= λ x. number_on n b >>= λ y. Ok (x, y)
pair_on n _ = Err (Syntax n)

abbrev pub few : List ℕ → Result (List ℕ) CertFault
few numbers = if nat_lt MAX_LABELS (length numbers) then Err TooManyLabels else Ok numbers

-- line n: this word, and at most `MAX_LABELS` numbers
unfoldable pub named_on : List ℕ → ℕ → List (List ℕ) → Result (List ℕ) CertFault
named_on name n [] = Err (Syntax n)
named_on name n (word ∷ words) =
    if bytes_eq word name then read_each (number_on n) words >>= few else Err (Syntax n)

abbrev pub few_labels : ℕ → Result ℕ CertFault
few_labels count = if nat_lt MAX_LABELS count then Err TooManyLabels else Ok count

-- line n: `labels N`
unfoldable pub count_on : ℕ → List (List ℕ) → Result ℕ CertFault
count_on n (word ∷ count ∷ []) =
    if bytes_eq word (codes "labels") then number_on n count >>= few_labels else Err (Syntax n)
count_on n _ = Err (Syntax n)
