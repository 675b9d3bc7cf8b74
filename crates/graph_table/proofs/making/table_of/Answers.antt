use Rattle.graph_table.proofs.Made.{has_more}
use Rattle.graph_table.proofs.making.table_of.Goals as goal

pub returns-in-None-clause-too_many : goal.returns-in-None-clause-too_many
returns-in-None-clause-too_many g c =
    has_more g.G.State.PartialEq.eq (g.G.StepGraph.graph c.args.graph.now) (g.met.G.StepGraph.laws c.args.graph.now) g.met.G.State.Eq.laws g.met.G.StepGraph.same_states c.args.limit (rw c.in-None.is at c.in_ok-visit_all.ensures.too_many)
