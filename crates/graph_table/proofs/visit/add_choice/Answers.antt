use Rattle.std.proofs.Common.{ap, sym, subst}
use Rattle.rulebook_order.specs.Graph.{IsStateOf}
use Rattle.graph_table.proofs.VisitLaws.{next_reached}
use Rattle.graph_table.proofs.visit.add_choice.Goals as goal

pub tick-requires : goal.tick-requires
tick-requires g c =
    let graph = g.G.StepGraph.graph c.args.graph.now in
    subst (IsStateOf graph) (sym (ap (λ p. p.0) c.in_ok-next.ensures.pair)) (next_reached g.G.State.PartialEq.eq graph c.args.state.now c.requires.reached c.args.choice c.requires.choice)
