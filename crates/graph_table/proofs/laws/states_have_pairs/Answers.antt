use Rattle.rulebook_order.specs.VectorOrder.{IsVectorOrder}
use Rattle.graph_table.proofs.Unbeaten.{more_pairs, undominated_at}
use Rattle.graph_table.proofs.laws.states_have_pairs.Goals as goal

pub returns : goal.returns
returns g c =
    let graph = g.G.StepGraph.graph c.args.graph.now in
    let no_worse = g.O.VectorOrder.no_worse c.args.order.now in
    let order : IsVectorOrder graph.width no_worse = rw c.requires (g.met.O.VectorOrder.laws c.args.order.now) in
    let laws = g.met.G.StepGraph.laws c.args.graph.now in
    let eq = g.G.State.PartialEq.eq in
    let same = g.met.G.StepGraph.same_states in
    record {
      pair = undominated_at eq g.met.G.State.Eq.laws same graph laws no_worse order;
      many = more_pairs eq g.met.G.State.Eq.laws same graph laws no_worse order;
    }
