use Rattle.std.proofs.Common.{◌≤◌, ◌+◌, take}
use Rattle.graph_table.specs.Visits.{choices_of}
use Rattle.graph_table.specs.Waiting.{HasVisited, KeepsWaiting}
use Rattle.graph_table.proofs.visiting.visit_from.Given as goal

abbrev pub invariant-loop-place : goal.invariant-loop-place
invariant-loop-place g l =
    let graph = g.G.StepGraph.graph l.graph in
    record {
      visited : HasVisited graph (take l.place l.states) l.visit;
      waiting : KeepsWaiting graph l.initial.visit l.visit;
      steps : l.steps + choices_of graph (take l.past l.states) ≤ l.initial.steps + choices_of graph (take l.place l.states);
    }
