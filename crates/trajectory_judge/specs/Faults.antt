-- Faults of recordings. This project's own.
use Rattle.std.specs.Prelude.{Bool, true, false}
use Rattle.trajectory_judge.specs.declared.fault.RecordFault.{RecordFault}
use Rattle.trajectory_judge.specs.declared.fault.RecordFault.TheVariants.{NoMemory}

-- the one fault that may come at any time
abbrev pub is_memory : RecordFault → Bool
is_memory NoMemory = true
is_memory _ = false
