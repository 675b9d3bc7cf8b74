use Rattle.maneuver_lattice.specs.Driving.{steps_of}
use Rattle.maneuver_lattice.specs.Moves.{scene_of}
use Rattle.maneuver_lattice.proofs.StepsAdded.{HasAdded}
use Rattle.maneuver_lattice.proofs.scene_graph.SceneGraph.add_steps.Given as goal

abbrev pub invariant-loop-j : goal.invariant-loop-j
invariant-loop-j g l = HasAdded (g.S.FeatureSource.features l.self.source.now) l.self.bound.now (steps_of (scene_of l.self.moves) l.state l.choice) l.initial.cost l.cost l.j
