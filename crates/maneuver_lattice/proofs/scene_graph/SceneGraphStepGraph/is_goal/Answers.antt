use Rattle.maneuver_lattice.specs.Moves.{scene_of}
use Rattle.maneuver_lattice.proofs.GraphLaws.{state_reached}
use Rattle.maneuver_lattice.proofs.scene_graph.SceneGraphStepGraph.is_goal.Goals as goal

pub is_goal-requires : goal.is_goal-requires
is_goal-requires g c = state_reached (scene_of c.args.self.now.moves) (g.S.FeatureSource.features c.args.self.now.source.now) c.args.self.now.bound.now c.args.self.now.bound_to c.args.state.now c.requires
