use Rattle.std.proofs.Common.{arith}
use Rattle.std.specs.Option.{option_copied}
use Rattle.violation_measures.specs.SceneFacts.{scene_is}
use Rattle.violation_measures.specs.SceneSources.{scene_of}
use Rattle.violation_measures.specs.TableLaws.{known_small}
use Rattle.violation_measures.proofs.scene_source.asked.SceneSourceFeatureSource.find.Goals as goal

pub number-requires : goal.number-requires
number-requires c =
    let s = c.args.self.now in
    let scene = scene_is s.network.now s.traffic.now s.ego_length s.ego_width s.maneuvers.now s.few_lanelets s.few_obstacles s.few_maneuvers in
    let small = known_small (scene_of s) scene c.args.name.now (option_copied c.args.argument) c.in-Some.feature c.in-Some.ensures in
    omega (arith, small)
