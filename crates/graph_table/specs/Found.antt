-- What is so of the answer of a table's making.
use Rattle.std.specs.Prelude.{ℕ, ◌+◌, ◌≤◌, Bool, Result, Ok, Err, take}
use Rattle.rulebook_order.specs.Graph.{Graph}
use Rattle.graph_table.specs.Visits.{visited, choices_of}
use Rattle.graph_table.specs.declared.fault.TableFault.{TableFault}
use Rattle.graph_table.specs.declared.fault.TableFault.TheVariants.{TooManyStates, NoMemory}

-- so it is, unless memory could not be had
abbrev pub UnlessNoMemory : {T : Type 0} → Result T TableFault → Type 0 → Type 0
UnlessNoMemory (Ok x) P = P
UnlessNoMemory (Err TooManyStates) P = P
UnlessNoMemory (Err NoMemory) P = Unit {0}

-- so it is where the fault is that there are too many states
abbrev pub IfTooMany : Type 0 → TableFault → Type 0
IfTooMany P TooManyStates = P
IfTooMany P NoMemory = Unit {0}

-- no more steps than the choices of the first states of the order of visit, up to the limit
abbrev pub StepsWithin : {S : Type 0} → (S → S → Bool) → Graph S → ℕ → ℕ → ℕ → Type 0
StepsWithin eq g limit old new = new ≤ old + choices_of g (take limit (visited eq g g.last))
