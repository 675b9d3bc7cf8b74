use Rattle.maneuver_lattice.specs.Moves.{scene_of}
use Rattle.maneuver_lattice.proofs.GraphLaws.{attains_its_vector, reaches_its_steps}
use Rattle.maneuver_lattice.proofs.laws.lists_add_up.Goals as goal

pub returns-clause-reaches : goal.returns-clause-reaches
returns-clause-reaches g c = reaches_its_steps (scene_of c.args.graph.now.moves) (g.S.FeatureSource.features c.args.graph.now.source.now) c.args.graph.now.bound.now c.args.graph.now.bound_to

pub returns-clause-attains : goal.returns-clause-attains
returns-clause-attains g c = attains_its_vector (scene_of c.args.graph.now.moves) (g.S.FeatureSource.features c.args.graph.now.source.now) c.args.graph.now.bound.now c.args.graph.now.bound_to c.args.graph.now.moves.well_formed
