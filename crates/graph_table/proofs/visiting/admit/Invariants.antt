use Rattle.std.proofs.Common.{◌≡◌, ◌≤◌, length, take}
use Rattle.indexmap.specs.IndexSet.{insert_all}
use Rattle.graph_table.proofs.visiting.admit.Given as goal

abbrev pub invariant-loop-state : goal.invariant-loop-state
invariant-loop-state g l = record {
  keys : l.states.keys ≡ insert_all g.S.PartialEq.eq l.initial.states.keys (take l.state-index l.arrived);
  within : length l.states.keys ≤ l.limit;
}
