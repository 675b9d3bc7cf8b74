use Rattle.std.proofs.Common.{◌≤◌, ◌+◌, length}
use Rattle.graph_table.specs.Visits.{choices_of}
use Rattle.graph_table.specs.Waiting.{IsVisitedTo}
use Rattle.graph_table.proofs.visiting.visit_all.Given as goal

abbrev pub invariant-loop-past : goal.invariant-loop-past
invariant-loop-past g l =
    let graph = g.G.StepGraph.graph l.graph in
    record {
      visited : IsVisitedTo g.G.State.PartialEq.eq graph l.past l.states.keys l.visit;
      within : length l.states.keys ≤ l.limit;
      steps : l.steps ≤ l.fn.steps + choices_of graph l.states.keys;
    }
