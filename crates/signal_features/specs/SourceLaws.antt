-- The source of the features of a scene with signals has the laws of a source.
use Rattle.std.proofs.Common.{◌≤◌, length, ap, arith}
use Rattle.scenario_model.specs.declared.limits.TheConstants.{MAX_LANELETS}
use Rattle.lanelet_network.specs.Lanes.{lane_ids}
use Rattle.violation_measures.specs.SceneFacts.{scene_is}
use Rattle.violation_measures.specs.SceneLaws.{scene_sound}
use Rattle.violation_measures.specs.SceneSources.{scene_of}
use Rattle.violation_measures.specs.Scenes.{features_of as scene_features, HasTable}
use Rattle.violation_measures.specs.Sources.{AreSound}
use Rattle.violation_measures.specs.TableLaws.{has_table}
use Rattle.violation_measures.specs.declared.scene_source.SceneSource.{SceneSource}
use Rattle.signal_features.specs.Features.{features_of}
use Rattle.signal_features.specs.Sources.{signalled_of}
use Rattle.signal_features.specs.TableLaws.{features_sound}
use Rattle.signal_features.specs.declared.source.SignalSource.{SignalSource}

pub scene_table : (source : SceneSource) → HasTable (scene_of source) (scene_features (scene_of source))
scene_table source =
    has_table (scene_of source)
    (scene_is source.network.now source.traffic.now source.ego_length source.ego_width source.maneuvers.now source.few_lanelets source.few_obstacles source.few_maneuvers)

pub signals_sound : (source : SignalSource) → AreSound (features_of (signalled_of source))
signals_sound source =
    features_sound (signalled_of source) (lane_ids source.network.now) source.scene.few_lanelets source.signalled
    (scene_table source.scene) (scene_sound source.scene)
