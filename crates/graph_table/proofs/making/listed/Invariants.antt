use Rattle.std.proofs.Common.{◌≡◌, take}
use Rattle.graph_table.proofs.making.listed.Given as goal

abbrev pub invariant-loop-state : goal.invariant-loop-state
invariant-loop-state g l = l.list ≡ take l.state-index l.states
