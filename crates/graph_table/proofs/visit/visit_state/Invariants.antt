use Rattle.std.proofs.Common.{◌≡◌, ◌++◌, ◌≤◌, ◌+◌}
use Rattle.graph_table.specs.Visits.{each_below}
use Rattle.graph_table.specs.Waiting.{KeepsWaiting}
use Rattle.graph_table.proofs.visit.visit_state.Given as goal

abbrev pub invariant-loop-choice : goal.invariant-loop-choice
invariant-loop-choice g l =
    let graph = g.G.StepGraph.graph l.graph in
    record {
      rows : l.visit.rows ≡ l.initial.visit.rows;
      nexts : l.visit.nexts ≡ l.initial.visit.nexts ++ each_below graph.next l.state l.choice;
      costs : l.visit.costs ≡ l.initial.visit.costs ++ each_below graph.cost l.state l.choice;
      waiting : KeepsWaiting graph l.initial.visit l.visit;
      steps : l.steps ≤ l.initial.steps + l.choice;
    }
