-- What is due to a command. This project's own.
use Rattle.std.specs.Prelude.{◌≡◌, ◌⊎◌, ℕ, List, Option, None, Some, Result, Ok, Err, ⊤}
use Rattle.std.specs.FinMap.{insert}
use Rattle.outside_io.specs.Outside.{Files}
use Rattle.command_outcome.specs.declared.outcome.Status.TheVariants as status
use Rattle.command_outcome.specs.Outcome.{Outcome, usage_text}
use Rattle.command_outcome.specs.Inputs.{Halt, absent, refusal, Inputs, given, gives}

-- A command with its words: what it reads; what it makes of that over the files, which may be any
-- of several outcomes; and the name under which it saves.
pub record Task : Type 1 where
  pub Input : Type 0
  pub inputs : Inputs Input
  pub Makes : Files → Input → Outcome → Type 0
  pub saves : Option (List ℕ)

-- The inputs are refused, and nothing is changed; or the command makes its outcome of them.
-- Nothing is due where a name that is come to isn't held: its load fails.
abbrev pub Settles : {A : Type 0} → Result A Halt → (A → Outcome → Type 0) → Files → Outcome
    → Type 0
Settles (Ok inputs) Makes files outcome = Makes inputs outcome
Settles (Err (refusal text)) Makes files outcome =
    outcome ≡ record { status = status.Refused; text = text; files = files }
Settles (Err absent) Makes files outcome = ⊥

-- the outcome is due to the command over these files
abbrev pub IsDueTo : Task → Files → Outcome → Type 0
IsDueTo task files outcome = Settles (gives task.inputs files) (task.Makes files) files outcome

-- one status, and of refusals one text
abbrev pub EndAlike : Outcome → Outcome → Type 0
EndAlike o p = (o.status ≡ p.status) × (o.status ≡ status.Refused → o.text ≡ p.text)

-- the files after the outcome are those before it, but for what a task that is done saves under its
-- one name
abbrev pub KeepsFiles : Task → Files → Outcome → Type 0
KeepsFiles task files o =
    (o.files ≡ files) ⊎ ((o.status ≡ status.Done) × (name : List ℕ) × (bytes : List ℕ)
    × (task.saves ≡ Some name) × (o.files ≡ insert files name bytes))

-- a command that reads nothing and prints this text, whatever the files
abbrev pub Prints : List ℕ → Files → ⊤ → Outcome → Type 0
Prints text before _ outcome =
    outcome ≡ record { status = status.Done; text = text; files = before }

abbrev pub print_task : List ℕ → Task
print_task text = record { Input = ⊤; inputs = given tt; Makes = Prints text; saves = None }

-- what words with no reading come to: they load nothing, and are told the usage
abbrev pub usage : Task
usage = record {
  Input = ⊤;
  inputs = given tt;
  Makes =
      λ files nothing outcome. outcome ≡ record {
        status = status.Usage;
        text = usage_text;
        files = files;
      };
  saves = None;
}

-- what words come to by their one reading
abbrev pub task_by : {R : Type 0} → (R → Task) → Option R → Task
task_by task_of None = usage
task_by task_of (Some request) = task_of request
