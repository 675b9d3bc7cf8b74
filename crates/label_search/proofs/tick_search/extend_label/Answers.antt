use Rattle.std.proofs.Common.{ℕ, List, ◌<◌, ◌^◌, arith, rules, sym, subst}
use Rattle.rulebook_order.specs.Graph.{IsReached}
use Rattle.rulebook_order.proofs.Reached.{IsReached-extend}
use Rattle.label_search.proofs.tick_search.extend_label.Goals as goal

pub overflow_cast-arrival : goal.overflow_cast-arrival
overflow_cast-arrival g c =
    let high = (g.met.G.StepGraph.laws c.args.graph.now).choices c.args.label.now.state (c.args.label.now.vector, c.requires.reached) in
    let fits : c.loop-choice.choice < 2 ^ 32 = omega arith in
    search rules

pub add_waiting-requires-clause-reached : goal.add_waiting-requires-clause-reached
add_waiting-requires-clause-reached g c =
    let graph = g.G.StepGraph.graph c.args.graph.now in
    let label = c.args.label.now in
    let below : c.loop-choice.choice < graph.choices label.state = omega arith in
    subst (λ (p : g.row.G-State.Denot × List ℕ). IsReached graph p.0 p.1) (sym (c.in_ok-state.ensures {u = tt}).pair) (IsReached-extend graph label.state label.vector c.loop-choice.choice c.requires.reached below)
