use Rattle.std.proofs.Common.{◌≡◌, ℕ, List, ◌∙◌, ◌*◌, ap, sym, subst, replicate}
use Rattle.rulebook_order.specs.StepGraph.{HasRoom, ticks_passed}
use Rattle.rulebook_order.specs.Sums.{sums}
use Rattle.graph_table.proofs.Zeros.{room_for_choice, cost_in_zeros}
use Rattle.graph_table.proofs.visit.led.Goals as goal

pub extend-next-requires-clause-room : goal.extend-next-requires-clause-room
extend-next-requires-clause-room g c =
    let graph = g.G.StepGraph.graph c.args.graph.now in
    let zeros : c.in_ok-cost.cost ≡ replicate graph.width 0 = c.in_ok-cost.ensures.ok ∙ ap (λ n. replicate n 0) c.width.ensures in
    subst (λ (xs : List ℕ). HasRoom (graph.step_limit * ticks_passed graph c.args.state.now c.args.choice) xs) (sym zeros)
    (room_for_choice graph (g.met.G.StepGraph.laws c.args.graph.now) c.args.state.now c.requires.reached c.args.choice c.requires.choice)

pub returns-clause-pair : goal.returns-clause-pair
returns-clause-pair g c =
    let graph = g.G.StepGraph.graph c.args.graph.now in
    let zeros : c.in_ok-cost.cost ≡ replicate graph.width 0 = c.in_ok-cost.ensures.ok ∙ ap (λ n. replicate n 0) c.width.ensures in
    let cost : c.extend-next.new.cost ≡ graph.cost c.args.state.now c.args.choice =
    c.extend-next.ensures.cost ∙ (ap (λ xs. sums xs (graph.cost c.args.state.now c.args.choice)) zeros ∙ cost_in_zeros graph (g.met.G.StepGraph.laws c.args.graph.now) c.args.state.now c.requires.reached c.args.choice c.requires.choice) in
    λ i. (c.extend-next.ensures.state i, cost i)
