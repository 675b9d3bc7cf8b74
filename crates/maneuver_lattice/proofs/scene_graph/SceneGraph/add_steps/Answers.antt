use Rattle.std.proofs.Common.{◌≡◌, ◌<◌, ◌≤◌, ℕ, List, length, take, get_or, refl, sym, ap, ◌∙◌, subst, arith}
use Rattle.std.proofs.lemmas.List.{take_all}
use Rattle.std.proofs.lemmas.List.FromFn.{length-map-range_with_len}
use Rattle.rulebook_order.specs.StepGraph.{HasRoom}
use Rattle.rulebook_order.specs.Sums.{sums}
use Rattle.violation_measures.specs.Vectors.{run}
use Rattle.violation_measures.specs.declared.amount.TheConstants.{MAX_AMOUNT}
use Rattle.violation_measures.specs.declared.step.Step.{Step}
use Rattle.maneuver_lattice.specs.Driving.{step_at, steps_of}
use Rattle.maneuver_lattice.specs.Moves.{scene_of}
use Rattle.maneuver_lattice.specs.Scenes.{Scene, chosen}
use Rattle.maneuver_lattice.specs.declared.state.LatticeState.{LatticeState}
use Rattle.maneuver_lattice.proofs.StepsAdded.{HasAdded, none_added, one_added, room_for_one, step_there}
use Rattle.maneuver_lattice.proofs.scene_graph.SceneGraph.add_steps.Goals as goal

count : (scene : Scene) (state : LatticeState) (choice : ℕ) → length (steps_of scene state choice) ≡ length (chosen scene state choice).steps
count scene state choice = length-map-range_with_len (step_at scene state choice) 1 (length (chosen scene state choice).steps)

pub loop-j-init : goal.loop-j-init
loop-j-init g c =
    none_added (g.S.FeatureSource.features c.args.self.now.source.now) c.args.self.now.bound.now c.args.self.now.bound_to (steps_of (scene_of c.args.self.now.moves) c.args.state.now c.args.choice) c.args.cost.now c.requires.width c.requires.room

pub add_step-requires-clause-room : goal.add_step-requires-clause-room
add_step-requires-clause-room g c =
    let scene = scene_of c.args.self.now.moves in
    let same = count scene c.args.state.now c.args.choice in
    let within : c.loop-j.j < length (steps_of scene c.args.state.now c.args.choice) = omega (arith, same, c.loop-j-test.true, c.step_count-j-end.ensures) in
    room_for_one (g.S.FeatureSource.features c.args.self.now.source.now) c.args.self.now.bound.now c.args.self.now.bound_to (steps_of scene c.args.state.now c.args.choice) c.args.cost.now c.loop-j.cost c.loop-j.j within c.loop-j.invariant

pub loop-j-preserved : goal.loop-j-preserved
loop-j-preserved g c =
    let scene = scene_of c.args.self.now.moves in
    let same = count scene c.args.state.now c.args.choice in
    let within : c.loop-j.j < length (steps_of scene c.args.state.now c.args.choice) = omega (arith, same, c.loop-j-test.true, c.step_count-j-end.ensures) in
    let short : c.loop-j.j < length (chosen scene c.args.state.now c.args.choice).steps = omega (arith, same, within) in
    let there : get_or (steps_of scene c.args.state.now c.args.choice) c.loop-j.j c.step_at-step.result ≡ c.step_at-step.result = step_there scene c.args.state.now c.args.choice c.loop-j.j c.step_at-step.result short ∙ sym c.step_at-step.ensures.value in
    rw c.add_step.ensures
    (one_added (g.S.FeatureSource.features c.args.self.now.source.now) c.args.self.now.bound.now c.args.self.now.bound_to (steps_of scene c.args.state.now c.args.choice) c.args.cost.now c.loop-j.cost c.loop-j.j c.step_at-step.result within there c.loop-j.invariant)

pub returns : goal.returns
returns g c =
    let scene = scene_of c.args.self.now.moves in
    let same = count scene c.args.state.now c.args.choice in
    let far : length (steps_of scene c.args.state.now c.args.choice) ≤ c.loop-j.j = omega (arith, same, c.loop-j-test.false, c.step_count-j-end.ensures) in
    c.loop-j.invariant.cost ∙ ap (λ (steps : List Step). sums c.args.cost.now (run (g.S.FeatureSource.features c.args.self.now.source.now) c.args.self.now.bound.now steps)) (take_all c.loop-j.j (steps_of scene c.args.state.now c.args.choice) far)
