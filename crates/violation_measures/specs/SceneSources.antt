-- What a scene's source of features is over, in the words of scenes.
use Rattle.moving_obstacles.specs.Tracks.{meeting_in, nearest_gap_in, headway_in}
use Rattle.violation_measures.specs.Scenes.{Scene}
use Rattle.violation_measures.specs.declared.scene_source.SceneSource.{SceneSource}

abbrev pub scene_of : SceneSource → Scene
scene_of source = record {
  lanes = source.network.now;
  meeting = meeting_in source.traffic.now;
  nearest_gap = nearest_gap_in source.traffic.now;
  headway = headway_in source.traffic.now;
  ego_length = source.ego_length;
  ego_width = source.ego_width;
  maneuvers = source.maneuvers.now;
}
