-- What the words of the command line ask for. This project's own.
use Rattle.std.specs.Prelude.{◌≡◌, ◌≤◌, ℕ, ◌&&◌, if◌then◌else◌, List, [], ◌∷◌, Option, None, Some}
use Rattle.std.specs.Prelude.{length, nat_le, ⊤, codes}
use Rattle.std.specs.List.{list_all}
use Rattle.std.specs.Option.{option_map}
use Rattle.std.specs.Str.{bytes_eq}
use Rattle.reading.specs.Words.{number_of}
use Rattle.command_outcome.specs.FileWords.{is_another, is_word}
use Rattle.sample_scene.specs.declared.sample.TheConstants.{MAX_NUMBER}
use Rattle.rulebook_cli.specs.declared.words.Command.{Command}
use Rattle.rulebook_cli.specs.declared.words.Command.TheVariants.{Pick, Compare, Show, Walk, Accept}
use Rattle.rulebook_cli.specs.declared.words.Command.TheVariants.{Derive, Judge, Plan, Check}
use Rattle.rulebook_cli.specs.declared.words.Command.TheVariants.{Sample, Help}
use Rattle.rulebook_cli.specs.declared.words.TheConstants.{MAX_DIGITS}

-- a command with the names of its files
pub data Request : Type 0 where
  pick : (book table : List ℕ) → Request
  compare : (book table : List ℕ) → Request
  show : (scenario : List ℕ) → Request
  walk : (scenario book lattice list : List ℕ) → Request
  accept : (parent child : List ℕ) → Request
  derive : (parent script : List ℕ) → Request
  judge : (scenario book lattice records : List ℕ) → Request
  plan : (scenario book lattice certificate : List ℕ) → Request
  check : (scenario book lattice certificate : List ℕ) → Request
  sample : (number : ℕ) → Request
  help : Request

-- the command without a word
abbrev pub no_words : List ℕ → Option Request
no_words command = if bytes_eq command (codes "--help") then Some help else None

-- the number of a sample scene: one to six digits
abbrev pub sample_number : List ℕ → Option ℕ
sample_number word = if nat_le (length word) MAX_DIGITS then number_of word else None

-- the commands of one word
abbrev pub one_word : List ℕ → List ℕ → Option Request
one_word command a =
    if bytes_eq command (codes "show") then Some (show a)
    else if bytes_eq command (codes "sample") then option_map sample (sample_number a)
    else None

-- the commands of two words
abbrev pub two_words : List ℕ → List ℕ → List ℕ → Option Request
two_words command a b =
    if bytes_eq command (codes "pick") then Some (pick a b)
    else if bytes_eq command (codes "compare") then Some (compare a b)
    else if bytes_eq command (codes "accept") then Some (accept a b)
    else if bytes_eq command (codes "derive") then Some (derive a b)
    else None

-- the commands of four words; a certificate is another file than the inputs
abbrev pub four_words : List ℕ → List ℕ → List ℕ → List ℕ → List ℕ → Option Request
four_words command a b c d =
    if bytes_eq command (codes "walk") then Some (walk a b c d)
    else if bytes_eq command (codes "judge") then Some (judge a b c d)
    else if bytes_eq command (codes "plan") && is_another a b c d then Some (plan a b c d)
    else if bytes_eq command (codes "check") && is_another a b c d then Some (check a b c d)
    else None

-- a command with just as many words as it has
abbrev pub with_words : List ℕ → List (List ℕ) → Option Request
with_words command [] = no_words command
with_words command (a ∷ []) = one_word command a
with_words command (a ∷ b ∷ []) = two_words command a b
with_words command (a ∷ b ∷ c ∷ d ∷ []) = four_words command a b c d
with_words command words = None

-- the one reading of the words
abbrev pub reading : List (List ℕ) → Option Request
reading [] = None
reading (command ∷ words) = if list_all is_word words then with_words command words else None

-- the words have no reading
abbrev pub HasNoReading : List (List ℕ) → Type 0
HasNoReading words = reading words ≡ None

-- a command of the program, without where its words lie
abbrev pub request_of : Command → Request
request_of (Pick book table) = pick book.now table.now
request_of (Compare book table) = compare book.now table.now
request_of (Show scenario) = show scenario.now
request_of (Walk scenario book lattice list) = walk scenario.now book.now lattice.now list.now
request_of (Accept parent child) = accept parent.now child.now
request_of (Derive parent script) = derive parent.now script.now
request_of (Judge scenario book lattice records) =
    judge scenario.now book.now lattice.now records.now
request_of (Plan scenario book lattice certificate) =
    plan scenario.now book.now lattice.now certificate.now
request_of (Check scenario book lattice certificate) =
    check scenario.now book.now lattice.now certificate.now
request_of (Sample number) = sample number
request_of Help = help

-- the number of a sample scene is within its limit
abbrev pub IsCommand : Command → Type 0
IsCommand (Sample number) = number ≤ MAX_NUMBER
IsCommand command = ⊤
