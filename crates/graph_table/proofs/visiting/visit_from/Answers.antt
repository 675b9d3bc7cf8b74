use Rattle.std.proofs.Common.{◌≡◌, ◌+◌, ◌<◌, ◌++◌, [], ◌∷◌, ◌∙◌, ap, sym, length, take, arith, rules}
use Rattle.std.proofs.lemmas.List.{take_more}
use Rattle.graph_table.proofs.Visited.{visited_more, choices_more}
use Rattle.graph_table.proofs.visiting.visit_from.Goals as goal

pub visit_state-requires : goal.visit_state-requires
visit_state-requires g c =
    let states = c.args.states.now in
    let within : c.loop-place.place < length states = search rules in
    record { reached = rw c.index-states-place.is (c.requires.reached c.loop-place.place c.index-states-place.result within) }

pub loop-place-preserved : goal.loop-place-preserved
loop-place-preserved g c =
    let graph = g.G.StepGraph.graph c.args.graph.now in
    let states = c.args.states.now in
    let place = c.loop-place.place in
    let state = c.index-states-place.result in
    let within : place < length states = search rules in
    let next : take (place + 1) states ≡ take place states ++ state ∷ [] = take_more states place state within ∙ ap (λ s. take place states ++ s ∷ []) (sym c.index-states-place.is) in
    let was = c.loop-place.invariant in
    let now = c.in_ok-visit_state.ensures in
    record {
      visited = visited_more graph (take place states) (take (place + 1) states) state c.loop-place.visit c.visit_state.new.visit next was.visited now.rows now.nexts now.costs;
      waiting = λ tick waits. now.waiting tick (was.waiting tick waits);
      steps = (let e = choices_more graph (take place states) (take (place + 1) states) state next in let before = was.steps in let more = now.steps in omega arith);
    }
