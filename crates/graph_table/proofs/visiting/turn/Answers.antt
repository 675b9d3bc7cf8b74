use Rattle.std.proofs.Common.{◌≡◌, ◌∙◌, ap, sym, subst, length, take, arith}
use Rattle.std.specs.Prelude.{All}
use Rattle.rulebook_order.specs.Graph.{IsStateOf}
use Rattle.indexmap.specs.IndexSet.{insert_all}
use Rattle.graph_table.specs.Visits.{choices_of}
use Rattle.graph_table.specs.Waiting.{HasVisited}
use Rattle.graph_table.proofs.Turned.{new_reached, new_longer, old_is}
use Rattle.graph_table.proofs.visiting.turn.Goals as goal

pub visit_from-requires-clause-reached : goal.visit_from-requires-clause-reached
visit_from-requires-clause-reached g c =
    let eq = g.G.State.PartialEq.eq in
    let graph = g.G.StepGraph.graph c.args.graph.now in
    let arrived = c.take_items-arrived.result.items in
    let keys : c.admit.new.states.keys ≡ insert_all eq c.args.states.now.keys arrived = c.in_ok-admit.ensures.keys c.if-branch.false ∙ ap (insert_all eq c.args.states.now.keys) c.as_slice.ensures.value in
    subst (λ all. All (IsStateOf graph) all) (sym c.as_slice-2.ensures.keys) (new_reached eq graph c.args.past c.args.states.now.keys c.args.visit.now c.requires.visited arrived c.admit.new.states.keys c.take_items-arrived.ensures.items keys)

pub visit_from-requires-clause-past : goal.visit_from-requires-clause-past
visit_from-requires-clause-past g c =
    let eq = g.G.State.PartialEq.eq in
    let graph = g.G.StepGraph.graph c.args.graph.now in
    let arrived = c.take_items-arrived.result.items in
    let keys : c.admit.new.states.keys ≡ insert_all eq c.args.states.now.keys arrived = c.in_ok-admit.ensures.keys c.if-branch.false ∙ ap (insert_all eq c.args.states.now.keys) c.as_slice.ensures.value in
    let longer = new_longer eq graph c.args.past c.args.states.now.keys c.args.visit.now c.requires.visited arrived c.admit.new.states.keys c.take_items-arrived.ensures.items keys in
    omega (arith, ap length c.as_slice-2.ensures.keys, c.len-before.ensures.len)

pub visit_from-requires-clause-visited : goal.visit_from-requires-clause-visited
visit_from-requires-clause-visited g c =
    let eq = g.G.State.PartialEq.eq in
    let graph = g.G.StepGraph.graph c.args.graph.now in
    let arrived = c.take_items-arrived.result.items in
    let keys : c.admit.new.states.keys ≡ insert_all eq c.args.states.now.keys arrived = c.in_ok-admit.ensures.keys c.if-branch.false ∙ ap (insert_all eq c.args.states.now.keys) c.as_slice.ensures.value in
    let same : take c.len-before.result c.as_slice-2.result.now ≡ c.args.states.now.keys =
    ap (λ n. take n c.as_slice-2.result.now) c.len-before.ensures.len ∙ (ap (take (length c.args.states.now.keys)) c.as_slice-2.ensures.keys ∙ old_is eq graph c.args.past c.args.states.now.keys c.args.visit.now c.requires.visited arrived c.admit.new.states.keys c.take_items-arrived.ensures.items keys) in
    let was = c.requires.visited.kept in
    subst (λ all. HasVisited graph all (record { rows = c.args.visit.now.rows; nexts = c.args.visit.now.nexts; costs = c.args.visit.now.costs; waiting = c.take_items-arrived.new.map })) (sym same)
    (record { rows = was.rows; nexts = was.nexts; costs = was.costs })

pub returns-clause-steps : goal.returns-clause-steps
returns-clause-steps g c =
    λ _.
    let eq = g.G.State.PartialEq.eq in
    let graph = g.G.StepGraph.graph c.args.graph.now in
    let arrived = c.take_items-arrived.result.items in
    let keys : c.admit.new.states.keys ≡ insert_all eq c.args.states.now.keys arrived = c.in_ok-admit.ensures.keys c.if-branch.false ∙ ap (insert_all eq c.args.states.now.keys) c.as_slice.ensures.value in
    let same : take c.len-before.result c.as_slice-2.result.now ≡ c.args.states.now.keys =
    ap (λ n. take n c.as_slice-2.result.now) c.len-before.ensures.len ∙ (ap (take (length c.args.states.now.keys)) c.as_slice-2.ensures.keys ∙ old_is eq graph c.args.past c.args.states.now.keys c.args.visit.now c.requires.visited arrived c.admit.new.states.keys c.take_items-arrived.ensures.items keys) in
    let steps = c.in_ok-visit_from.ensures.steps in
    omega (arith, ap (choices_of graph) same, ap (choices_of graph) c.as_slice-2.ensures.keys)
