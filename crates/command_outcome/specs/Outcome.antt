-- The outcome of a call: its status, what it writes, and the files afterwards. This project's own.
use Rattle.std.specs.Prelude.{◌≡◌, ℕ, List, ◌++◌, Option, None, Some, codes, ⊤}
use Rattle.std.specs.Fmt.{decimal}
use Rattle.outside_io.specs.Outside.{Files}
use Rattle.command_outcome.specs.declared.outcome.Ending.{Ending}
use Rattle.command_outcome.specs.declared.outcome.Ending.TheVariants as ending
use Rattle.command_outcome.specs.declared.outcome.Role.{Role}
use Rattle.command_outcome.specs.declared.outcome.Role.TheVariants as role
use Rattle.command_outcome.specs.declared.outcome.Status.{Status}
use Rattle.command_outcome.specs.declared.outcome.Status.TheVariants as status
use Rattle.command_outcome.specs.declared.outcome.Stop.{Stop}
use Rattle.command_outcome.specs.declared.outcome.Stop.TheVariants as stop

pub record Outcome : Type 0 where
  pub status : Status
  pub text : List ℕ
  pub files : Files

-- the statuses of due outcomes
abbrev pub IsDueStatus : Status → Type 0
IsDueStatus status.ReadFault = ⊥
IsDueStatus status.WriteFault = ⊥
IsDueStatus status.NoMemory = ⊥
IsDueStatus s = ⊤

-- the statuses of calls in which nothing failed
abbrev pub TellsNoFault : Status → Type 0
TellsNoFault status.ReadFault = ⊥
TellsNoFault status.WriteFault = ⊥
TellsNoFault s = ⊤

-- the number that a program ends with
abbrev pub exit_number : Status → ℕ
exit_number status.Done = 0
exit_number status.Refused = 1
exit_number status.Usage = 2
exit_number status.ReadFault = 3
exit_number status.WriteFault = 4
exit_number status.NoMemory = 5
exit_number status.Rejected = 6
exit_number status.TooManyLabels = 7

-- the status of a command that ends before its work is done
abbrev pub status_of : Ending → Status
status_of ending.Refused = status.Refused
status_of ending.Rejected = status.Rejected
status_of ending.TooManyLabels = status.TooManyLabels

abbrev pub role_text : Role → List ℕ
role_text role.Book = codes "book"
role_text role.Table = codes "table"
role_text role.Scenario = codes "scenario"
role_text role.Lattice = codes "lattice"
role_text role.List = codes "list"
role_text role.Certificate = codes "certificate"
role_text role.Parent = codes "parent"
role_text role.Child = codes "child"
role_text role.Script = codes "script"
role_text role.Records = codes "records"

-- `refused ROLE FAULT`
abbrev pub refused_text : Role → List ℕ → List ℕ
refused_text r fault = codes "refused " ++ (role_text r ++ (codes " " ++ (fault ++ codes "\n")))

-- a fault's name and its number
abbrev pub fault_at : List ℕ → ℕ → List ℕ
fault_at name number = name ++ (codes " " ++ decimal number)

-- a fault's name and the name of what has it
abbrev pub fault_of : List ℕ → List ℕ → List ℕ
fault_of fault name = fault ++ (codes " " ++ name)

-- `cannot read ROLE`
abbrev pub unread_text : Role → List ℕ
unread_text r = codes "cannot read " ++ (role_text r ++ codes "\n")

abbrev pub usage_text : List ℕ
usage_text = codes "usage: see --help\n"

-- the command ends so, with this text; or memory is wanting
abbrev pub EndsAs : Ending → List ℕ → Stop → Type 0
EndsAs ending text stop.NoMemory = ⊤
EndsAs ending text (stop.Ended e written) = (e ≡ ending) × (written.items ≡ text)
EndsAs ending text (stop.Unread role) = ⊥
EndsAs ending text stop.Unsaved = ⊥

-- the refusal of the file in the role by what is said of a fault; or want of memory, of which
-- nothing is said
abbrev pub Refuses : Role → Option (List ℕ) → Stop → Type 0
Refuses r None end = end ≡ stop.NoMemory
Refuses r (Some fault) end = EndsAs ending.Refused (refused_text r fault) end
