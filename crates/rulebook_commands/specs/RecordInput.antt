-- Recordings as an input, with the text of each fault. This project's own.
use Rattle.std.specs.Prelude.{ℕ, List, Option, None, Some, Result, codes}
use Rattle.trajectory_judge.specs.Records.{records_of}
use Rattle.trajectory_judge.specs.declared.fault.RecordFault.{RecordFault}
use Rattle.trajectory_judge.specs.declared.fault.RecordFault.TheVariants as fault
use Rattle.trajectory_judge.specs.declared.records.Records.{Records}
use Rattle.command_outcome.specs.declared.outcome.Role.TheVariants as role
use Rattle.command_outcome.specs.Outcome.{fault_at}
use Rattle.command_outcome.specs.Inputs.{Inputs, file, told}

-- a fault's name in lower case with dashes between its words, and the number of the row; want of
-- memory has none
abbrev pub record_fault_text : RecordFault → Option (List ℕ)
record_fault_text fault.WrongHeader = Some (codes "wrong-header")
record_fault_text (fault.Csv n) = Some (fault_at (codes "csv") n)
record_fault_text (fault.BadName n) = Some (fault_at (codes "bad-name") n)
record_fault_text (fault.BadNumber n) = Some (fault_at (codes "bad-number") n)
record_fault_text (fault.UnknownManeuver n) = Some (fault_at (codes "unknown-maneuver") n)
record_fault_text (fault.TickGap n) = Some (fault_at (codes "tick-gap") n)
record_fault_text (fault.DuplicateName n) = Some (fault_at (codes "duplicate-name") n)
record_fault_text (fault.TooMany n) = Some (fault_at (codes "too-many") n)
record_fault_text fault.Empty = Some (codes "empty")
record_fault_text fault.NoMemory = None

-- a recording's maneuvers are among those of the lattice
abbrev pub records_read : List (List ℕ) → List ℕ → Result Records (Option (List ℕ))
records_read maneuvers bytes = told record_fault_text (records_of maneuvers bytes)

abbrev pub records_input : List (List ℕ) → List ℕ → Inputs Records
records_input maneuvers name = file role.Records (records_read maneuvers) name
