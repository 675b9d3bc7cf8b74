use Rattle.std.proofs.Common.{ap}
use Rattle.rulebook_order.specs.Sums.{sums}
use Rattle.graph_table.specs.Tables.{IsAt, table_graph}
use Rattle.graph_table.proofs.AlikeLaws.{reach_alike}
use Rattle.graph_table.proofs.laws.lists_reach_alike.Goals as goal

pub returns : goal.returns
returns g c =
    let graph = g.G.StepGraph.graph c.args.graph.now in
    let table = c.args.table.now in
    let alike = c.requires.alike in
    record {
      reach = reach_alike graph (table_graph table.entries) (IsAt table.states) alike;
      goal = λ s t at. alike.goal s t at;
      end = λ s t v at. ap (sums v) (alike.finish s t at);
      one = λ s t u at there. alike.one_there s t u at there;
    }
