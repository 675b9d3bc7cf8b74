use Rattle.std.proofs.Common.{take}
use Rattle.std.specs.List.{AllZip}
use Rattle.graph_table.specs.Tables.{IsAt}
use Rattle.graph_table.proofs.making.places_of.Given as goal

abbrev pub invariant-loop-next : goal.invariant-loop-next
invariant-loop-next g l = AllZip (IsAt l.states.keys) (take l.next-index l.nexts) l.places
