use Rattle.maneuver_lattice.specs.Moves.{scene_of}
use Rattle.maneuver_lattice.proofs.GraphLaws.{laws}
use Rattle.maneuver_lattice.proofs.scene_graph.SceneGraph.new.Goals as goal

pub invariant_of-result : goal.invariant_of-result
invariant_of-result g c = record {
  bound_to = c.requires.bound;
  lawful = laws (scene_of c.in-Ok.moves) (g.S.FeatureSource.features c.args.source.now) c.args.bound.now c.requires.bound c.in-Ok.moves.class c.in-Ok.moves.well_formed c.in-Ok.moves.starts;
}
