-- The source of a scene's features has the laws of a source.
use Rattle.violation_measures.specs.SceneFacts.{scene_is}
use Rattle.violation_measures.specs.TableLaws.{features_sound}
use Rattle.violation_measures.specs.Scenes.{features_of}
use Rattle.violation_measures.specs.Sources.{AreSound}
use Rattle.violation_measures.specs.SceneSources.{scene_of}
use Rattle.violation_measures.specs.declared.scene_source.SceneSource.{SceneSource}

pub scene_sound : (source : SceneSource) → AreSound (features_of (scene_of source))
scene_sound source =
    features_sound (scene_of source)
    (scene_is source.network.now source.traffic.now source.ego_length source.ego_width source.maneuvers.now source.few_lanelets source.few_obstacles source.few_maneuvers)
