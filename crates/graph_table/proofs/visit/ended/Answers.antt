use Rattle.std.proofs.Common.{◌∙◌}
use Rattle.graph_table.proofs.Zeros.{finish_in_zeros}
use Rattle.graph_table.proofs.visit.ended.Goals as goal

pub returns : goal.returns
returns g c =
    let graph = g.G.StepGraph.graph c.args.graph.now in
    let zeros = c.in_ok-cost.ensures.ok in
    let width = c.width.ensures in
    let added = finish_in_zeros graph (g.met.G.StepGraph.laws c.args.graph.now) c.args.state.now c.requires in
    c.finish.ensures ∙ cc
