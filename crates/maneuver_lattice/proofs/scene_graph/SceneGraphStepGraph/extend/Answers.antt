use Rattle.std.proofs.Common.{ℕ, ◌*◌, subst}
use Rattle.rulebook_order.specs.StepGraph.{HasRoom}
use Rattle.violation_measures.specs.declared.amount.TheConstants.{MAX_AMOUNT}
use Rattle.maneuver_lattice.specs.Moves.{scene_of}
use Rattle.maneuver_lattice.proofs.GraphLaws.{passed, state_reached}
use Rattle.maneuver_lattice.proofs.scene_graph.SceneGraphStepGraph.extend.Goals as goal

pub add_steps-requires-clause-reached : goal.add_steps-requires-clause-reached
add_steps-requires-clause-reached g c = state_reached (scene_of c.args.self.now.moves) (g.S.FeatureSource.features c.args.self.now.source.now) c.args.self.now.bound.now c.args.self.now.bound_to c.args.state.now c.requires.reached

pub add_steps-requires-clause-room : goal.add_steps-requires-clause-room
add_steps-requires-clause-room g c =
    subst (λ (n : ℕ). HasRoom (MAX_AMOUNT * n) c.args.cost.now) (passed (scene_of c.args.self.now.moves) (g.S.FeatureSource.features c.args.self.now.source.now) c.args.self.now.bound.now c.args.self.now.bound_to c.args.state.now c.args.choice) c.requires.room

pub next-requires-clause-reached : goal.next-requires-clause-reached
next-requires-clause-reached g c = state_reached (scene_of c.args.self.now.moves) (g.S.FeatureSource.features c.args.self.now.source.now) c.args.self.now.bound.now c.args.self.now.bound_to c.args.state.now c.requires.reached
