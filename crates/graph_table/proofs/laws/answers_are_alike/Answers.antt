use Rattle.rulebook_order.specs.VectorOrder.{Holds}
use Rattle.graph_table.specs.Tables.{IsAt, table_graph}
use Rattle.graph_table.proofs.AlikeLaws.{answers_alike, undominated_alike}
use Rattle.graph_table.proofs.AlikePairs.{more_alike}
use Rattle.graph_table.proofs.laws.answers_are_alike.Goals as goal

pub returns : goal.returns
returns g c =
    let graph = g.G.StepGraph.graph c.args.graph.now in
    let table = c.args.table.now in
    let alike = c.requires.alike in
    record {
      answers = λ no_worse vectors are. answers_alike graph (table_graph table.entries) (IsAt table.states) alike (Holds no_worse) vectors are;
      pairs = λ no_worse s t v at. undominated_alike graph (table_graph table.entries) (IsAt table.states) alike (Holds no_worse) s t v at;
      many = λ no_worse limit more. more_alike graph (table_graph table.entries) (IsAt table.states) alike (Holds no_worse) limit more;
    }
