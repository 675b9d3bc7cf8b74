use Rattle.maneuver_lattice.specs.Moves.{scene_of}
use Rattle.maneuver_lattice.proofs.GraphLaws.{state_reached}
use Rattle.maneuver_lattice.proofs.scene_graph.SceneGraphStepGraph.finish.Goals as goal

pub end_step-requires : goal.end_step-requires
end_step-requires g c = state_reached (scene_of c.args.self.now.moves) (g.S.FeatureSource.features c.args.self.now.source.now) c.args.self.now.bound.now c.args.self.now.bound_to c.args.state.now c.requires.reached
