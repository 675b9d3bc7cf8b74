-- `derive PARENT SCRIPT`: the book that a script derives from another, or why it derives none.
use Rattle.std.specs.Prelude.{◌≡◌, ◌⊎◌, ℕ, List, Option, None, Some, Result, Ok, Err, Vec, ⊤}
use Rattle.std.specs.declared.alloc.Global.{Global}
use Rattle.outside_io.specs.Outside.{Files}
use Rattle.reading.specs.Lines.{lines_of}
use Rattle.rule_language.specs.Books.{book_of}
use Rattle.rule_language.specs.Writing.{book_text}
use Rattle.rule_language.specs.declared.book.Book.{Book}
use Rattle.book_operations.specs.Scripts.{IsDerivedBy, IsScriptFault, KeepsThrough}
use Rattle.book_operations.specs.declared.fault.DeriveFault.{DeriveFault}
use Rattle.command_outcome.specs.declared.outcome.Ending.TheVariants as ending
use Rattle.command_outcome.specs.declared.outcome.Role.TheVariants as role
use Rattle.command_outcome.specs.declared.outcome.Status.TheVariants as status
use Rattle.command_outcome.specs.declared.outcome.Stop.{Stop}
use Rattle.command_outcome.specs.declared.outcome.Stop.TheVariants as stop
use Rattle.command_outcome.specs.Inputs.{Inputs, file, given, ◌>>=◌}
use Rattle.command_outcome.specs.Outcome.{EndsAs, Outcome, refused_text}
use Rattle.command_outcome.specs.Tasks.{Task}
use Rattle.rulebook_commands.specs.DeriveFaults.{derive_fault_text}
use Rattle.bound_scene.specs.Inputs.{book_input}

-- ---- the inputs: any bytes are a script

abbrev pub script_read : List ℕ → Result (List ℕ) (Option (List ℕ))
script_read bytes = Ok bytes

abbrev pub script_input : List ℕ → Inputs (List ℕ)
script_input name = file role.Script script_read name

abbrev pub with_script : List ℕ → Book → Inputs (Book × List ℕ)
with_script name parent = do
  script ← script_input name
  given (parent, script)

abbrev pub derive_inputs : List ℕ → List ℕ → Inputs (Book × List ℕ)
derive_inputs parent_name script_name = do
  parent ← book_input role.Parent parent_name
  with_script script_name parent

-- ---- what is due

-- the script derives a book, which keeps the parent's preferences; it is printed in its written
-- form, which is read as the same book
pub record IsDerivation (parent : Book) (script printed : List ℕ) : Type 0 where
  pub book : Book
  pub derived : IsDerivedBy script parent book
  pub keeps : KeepsThrough 1 (lines_of script) parent book
  pub says : printed ≡ book_text book
  pub read_again : book_of printed ≡ Ok book

-- the first fault of the script
pub record IsNoScript (parent : Book) (script said : List ℕ) : Type 0 where
  pub fault : DeriveFault
  pub refused : IsScriptFault script parent fault
  pub told : derive_fault_text fault ≡ Some said

pub record IsDerivedTo (before : Files) (parent : Book) (script : List ℕ)
    (outcome : Outcome) : Type 0 where
  pub done : outcome.status ≡ status.Done
  pub stays : outcome.files ≡ before
  pub derives : IsDerivation parent script outcome.text

pub record IsScriptRefused (before : Files) (parent : Book) (script : List ℕ)
    (outcome : Outcome) : Type 0 where
  pub said : List ℕ
  pub no_script : IsNoScript parent script said
  pub is : outcome ≡ record {
    status = status.Refused;
    text = refused_text role.Script said;
    files = before;
  }

abbrev pub DeriveMakes : Files → Book × List ℕ → Outcome → Type 0
DeriveMakes before input outcome =
    IsDerivedTo before input.0 input.1 outcome ⊎ IsScriptRefused before input.0 input.1 outcome

abbrev pub derive_task : List ℕ → List ℕ → Task
derive_task parent script =
    record {
      Input = Book × List ℕ;
      inputs = derive_inputs parent script;
      Makes = DeriveMakes;
      saves = None;
    }

-- ---- before anything is written

abbrev pub DeriveStops : Book → List ℕ → Stop → Type 0
DeriveStops parent script stop.NoMemory = ⊤
DeriveStops parent script (stop.Ended e text) =
    (said : List ℕ) × IsNoScript parent script said
    × EndsAs ending.Refused (refused_text role.Script said) (stop.Ended e text)
DeriveStops parent script (stop.Unread r) = ⊥
DeriveStops parent script stop.Unsaved = ⊥

abbrev pub DerivesText : Book → List ℕ → Result (Vec ℕ Global) Stop → Type 0
DerivesText parent script (Ok text) = IsDerivation parent script text.items
DerivesText parent script (Err end) = DeriveStops parent script end
