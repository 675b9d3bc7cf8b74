-- `accept PARENT CHILD`: which step a book is from another, or why it is none.
use Rattle.std.specs.Prelude.{◌≡◌, ◌⊎◌, ℕ, List, None, Some, Result, Ok, Err, Vec, ⊤, codes}
use Rattle.std.specs.declared.alloc.Global.{Global}
use Rattle.outside_io.specs.Outside.{Files}
use Rattle.rule_language.specs.declared.book.Book.{Book}
use Rattle.book_operations.specs.Kinds.{IsOfKind, IsStep, IsStepFault, KeepsAs, ShowsAs}
use Rattle.book_operations.specs.declared.fault.DeriveFault.{DeriveFault}
use Rattle.book_operations.specs.declared.kind.Accepted.{Accepted}
use Rattle.book_operations.specs.declared.kind.Accepted.TheVariants as kind
use Rattle.derived_trajectories.specs.Driven.{CarriesDriven, KeepsTrajectories}
use Rattle.command_outcome.specs.declared.outcome.Ending.TheVariants as ending
use Rattle.command_outcome.specs.declared.outcome.Role.TheVariants as role
use Rattle.command_outcome.specs.declared.outcome.Status.TheVariants as status
use Rattle.command_outcome.specs.declared.outcome.Stop.{Stop}
use Rattle.command_outcome.specs.declared.outcome.Stop.TheVariants as stop
use Rattle.command_outcome.specs.Inputs.{Inputs, given, ◌>>=◌}
use Rattle.command_outcome.specs.Outcome.{EndsAs, Outcome, refused_text}
use Rattle.command_outcome.specs.Tasks.{Task}
use Rattle.rulebook_commands.specs.DeriveFaults.{derive_fault_text}
use Rattle.bound_scene.specs.Inputs.{book_input}

-- ---- the inputs

abbrev pub with_child : List ℕ → Book → Inputs (Book × Book)
with_child name parent = do
  child ← book_input role.Child name
  given (parent, child)

abbrev pub accept_inputs : List ℕ → List ℕ → Inputs (Book × Book)
accept_inputs parent_name child_name = do
  parent ← book_input role.Parent parent_name
  with_child child_name parent

-- ---- what is due

abbrev pub kind_text : Accepted → List ℕ
kind_text kind.Refinement = codes "refinement\n"
kind_text kind.Aggregation = codes "aggregation\n"
kind_text kind.Augmentation = codes "augmentation\n"

-- The child is a step of its kind, which is named, and keeps the parent's preferences: among
-- vectors, and among trajectories, whose vectors by the child carry those by the parent.
pub record IsTaken (parent child : Book) (printed : List ℕ) : Type 0 where
  pub kind_is : Accepted
  pub of_kind : IsOfKind parent child kind_is
  pub step : IsStep parent child kind_is
  pub keeps : KeepsAs parent child kind_is
  pub driven : CarriesDriven parent child kind_is
  pub keeps_driven : KeepsTrajectories parent child
  pub says : printed ≡ kind_text kind_is

-- the child has this fault by the test of its kind, and its two vectors show a preference that is
-- lost
pub record IsNoStep (parent child : Book) (said : List ℕ) : Type 0 where
  pub kind_is : Accepted
  pub of_kind : IsOfKind parent child kind_is
  pub fault : DeriveFault
  pub refused : IsStepFault parent child kind_is fault
  pub shows : ShowsAs parent child kind_is fault
  pub told : derive_fault_text fault ≡ Some said

pub record IsAcceptance (before : Files) (parent child : Book) (outcome : Outcome) : Type 0 where
  pub done : outcome.status ≡ status.Done
  pub stays : outcome.files ≡ before
  pub taken : IsTaken parent child outcome.text

pub record IsRefusal (before : Files) (parent child : Book) (outcome : Outcome) : Type 0 where
  pub said : List ℕ
  pub no_step : IsNoStep parent child said
  pub is : outcome ≡ record {
    status = status.Refused;
    text = refused_text role.Child said;
    files = before;
  }

abbrev pub AcceptMakes : Files → Book × Book → Outcome → Type 0
AcceptMakes before input outcome =
    IsAcceptance before input.0 input.1 outcome ⊎ IsRefusal before input.0 input.1 outcome

abbrev pub accept_task : List ℕ → List ℕ → Task
accept_task parent child =
    record {
      Input = Book × Book;
      inputs = accept_inputs parent child;
      Makes = AcceptMakes;
      saves = None;
    }

-- ---- before anything is written

abbrev pub AcceptStops : Book → Book → Stop → Type 0
AcceptStops parent child stop.NoMemory = ⊤
AcceptStops parent child (stop.Ended e text) =
    (said : List ℕ) × IsNoStep parent child said × EndsAs ending.Refused
    (refused_text role.Child said) (stop.Ended e text)
AcceptStops parent child (stop.Unread r) = ⊥
AcceptStops parent child stop.Unsaved = ⊥

abbrev pub Accepts : Book → Book → Result (Vec ℕ Global) Stop → Type 0
Accepts parent child (Ok text) = IsTaken parent child text.items
Accepts parent child (Err end) = AcceptStops parent child end
