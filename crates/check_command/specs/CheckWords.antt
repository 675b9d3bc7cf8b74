-- What the words of a program ask for that has no command but `check`. This project's own.
use Rattle.std.specs.Prelude.{◌≡◌, ℕ, ◌&&◌, if◌then◌else◌, List, [], ◌∷◌, Option, None, Some, codes}
use Rattle.std.specs.List.{list_all}
use Rattle.std.specs.Str.{bytes_eq}
use Rattle.command_outcome.specs.FileWords.{is_another, is_word}
use Rattle.command_outcome.specs.Tasks.{Task, print_task, task_by}
use Rattle.check_command.specs.Check.{check_task}
use Rattle.check_command.specs.declared.words.CheckCommand.{CheckCommand}
use Rattle.check_command.specs.declared.words.CheckCommand.TheVariants.{Check, Help}

-- a command with the names of its files
pub data CheckRequest : Type 0 where
  check : (scenario book lattice certificate : List ℕ) → CheckRequest
  help : CheckRequest

abbrev pub no_words : List ℕ → Option CheckRequest
no_words command = if bytes_eq command (codes "--help") then Some help else None

-- a certificate is another file than the inputs
abbrev pub four_words : List ℕ → List ℕ → List ℕ → List ℕ → List ℕ → Option CheckRequest
four_words command a b c d =
    if bytes_eq command (codes "check") && is_another a b c d then Some (check a b c d) else None

abbrev pub with_words : List ℕ → List (List ℕ) → Option CheckRequest
with_words command [] = no_words command
with_words command (a ∷ b ∷ c ∷ d ∷ []) = four_words command a b c d
with_words command words = None

-- the one reading of the words
abbrev pub check_reading : List (List ℕ) → Option CheckRequest
check_reading [] = None
check_reading (command ∷ words) = if list_all is_word words then with_words command words else None

-- the words have no reading
abbrev pub HasNoCheckReading : List (List ℕ) → Type 0
HasNoCheckReading words = check_reading words ≡ None

-- a command of the program, without where its words lie
abbrev pub check_request_of : CheckCommand → CheckRequest
check_request_of (Check scenario book lattice certificate) =
    check scenario.now book.now lattice.now certificate.now
check_request_of Help = help

-- ---- as a task

-- what `--help` prints
abbrev pub check_help : List ℕ
check_help = codes "check SCENARIO BOOK LATTICE CERT\n--help\n"

abbrev pub check_task_of : CheckRequest → Task
check_task_of (check scenario book lattice certificate) =
    check_task scenario book lattice certificate
check_task_of help = print_task check_help

-- words with no reading are told the usage
abbrev pub asked_to_check : List (List ℕ) → Task
asked_to_check words = task_by check_task_of (check_reading words)
