use Rattle.std.proofs.Common.{FitsSigned, w64, to_z-of_z}
use Rattle.violation_measures.specs.SceneFacts.{scene_in, scene_is, scene_same}
use Rattle.violation_measures.specs.TableLaws.{has_table}
use Rattle.violation_measures.proofs.scene_source.SceneSource.new.Goals as goal

pub returns-clause-scene : goal.returns-clause-scene
returns-clause-scene c = λ obstacles e.
    let l : FitsSigned w64 c.args.ego_length = c.ranges.ego_length in
    let w : FitsSigned w64 c.args.ego_width = c.ranges.ego_width in
    simp to_z-of_z (scene_same c.args.network.now c.args.traffic.now c.args.ego_length c.args.ego_width c.args.maneuvers.now obstacles e)

pub returns-clause-table : goal.returns-clause-table
returns-clause-table c =
    has_table (scene_in c.args.network.now c.args.traffic.now _ _ c.args.maneuvers.now)
    (scene_is c.args.network.now c.args.traffic.now _ _ c.args.maneuvers.now c.prove_few.ensures.lanelets c.prove_few.ensures.obstacles c.requires.few)
