use Rattle.std.proofs.Common.{◌≡◌, ◌+◌, ◌≤◌, arith, rules}
use Rattle.graph_table.proofs.Turned.{too_many_visited, steps_within}
use Rattle.graph_table.proofs.visiting.visit_all.Goals as goal

pub returns-then-branch-clause-too_many : goal.returns-then-branch-clause-too_many
returns-then-branch-clause-too_many g c =
    let eq = g.G.State.PartialEq.eq in
    let graph = g.G.StepGraph.graph c.args.graph.now in
    let in_time : c.loop-past.past + 1 ≤ graph.last = omega (arith, c.last-past-end.ensures) in
    too_many_visited eq graph c.args.limit (c.loop-past.past + 1) in_time (c.in_ok-turn.ensures.many (search rules))

pub returns-then-branch-clause-steps : goal.returns-then-branch-clause-steps
returns-then-branch-clause-steps g c =
    let eq = g.G.State.PartialEq.eq in
    let graph = g.G.StepGraph.graph c.args.graph.now in
    let in_time : c.loop-past.past ≤ graph.last = omega (arith, c.last-past-end.ensures) in
    let was = c.loop-past.invariant in
    let steps : c.turn.new.steps ≡ c.loop-past.steps = c.in_ok-turn.ensures.many_steps (search rules) in
    let before = was.steps in
    steps_within eq graph c.args.limit c.loop-past.past c.args.steps.now c.turn.new.steps c.loop-past.states.keys in_time was.visited.states_are was.within (omega arith)
