-- The scene of a network and a traffic.
use Rattle.std.proofs.Common.{◌≡◌, ℕ, ◌≤◌, ℤ, List, length, arith}
use Rattle.scenario_model.specs.declared.obstacle.Obstacle.{Obstacle}
use Rattle.lanelet_network.specs.Lanes.{Lane}
use Rattle.moving_obstacles.specs.declared.track.Track.{Track}
use Rattle.moving_obstacles.specs.Tracks.{IsTrafficOf, meeting_in, nearest_gap_in, headway_in}
use Rattle.moving_obstacles.proofs.Same.{meeting_same, nearest_gap_same, headway_same}
use Rattle.violation_measures.specs.Bounded.{gap_low, gap_high, headway_low, headway_high}
use Rattle.violation_measures.specs.Bounded.{meeting_high}
use Rattle.violation_measures.specs.TableLaws.{IsScene}
use Rattle.violation_measures.specs.Scenes.{Scene, scene_among}
use Rattle.scenario_model.specs.declared.limits.TheConstants.{MAX_LANELETS, MAX_OBSTACLES}
use Rattle.violation_measures.specs.declared.scene_source.TheConstants.{MAX_MANEUVERS}

abbrev pub scene_in : List Lane → List Track → ℤ → ℤ → List (List ℕ) → Scene
scene_in lanes tracks ego_length ego_width maneuvers = record {
  lanes = lanes;
  meeting = meeting_in tracks;
  nearest_gap = nearest_gap_in tracks;
  headway = headway_in tracks;
  ego_length = ego_length;
  ego_width = ego_width;
  maneuvers = maneuvers;
}

pub scene_is : (lanes : List Lane) (tracks : List Track) (l w : ℤ) (maneuvers : List (List ℕ))
    → length lanes ≤ MAX_LANELETS → length tracks ≤ MAX_OBSTACLES → length maneuvers ≤ MAX_MANEUVERS
    → IsScene (scene_in lanes tracks l w maneuvers)
scene_is lanes tracks l w maneuvers few_lanes few_tracks few_maneuvers = record {
  few_lanes = few_lanes;
  few_maneuvers = few_maneuvers;
  few_met = λ ego tick. omega (arith, few_tracks, meeting_high tracks ego tick);
  gap_low = gap_low tracks;
  gap_high = gap_high tracks;
  headway_low = headway_low tracks;
  headway_high = headway_high tracks;
}

-- what is over the tracks is over the obstacles
pub scene_same : (lanes : List Lane) (tracks : List Track) (l w : ℤ) (maneuvers : List (List ℕ))
    (obstacles : List Obstacle) → IsTrafficOf obstacles tracks
    → scene_in lanes tracks l w maneuvers ≡ scene_among lanes obstacles l w maneuvers
unfolding meeting_in nearest_gap_in headway_in
scene_same lanes tracks l w maneuvers obstacles e = λ i. record {
  lanes = lanes;
  meeting = λ ego tick. meeting_same obstacles tracks ego tick e i;
  nearest_gap = λ ego tick. nearest_gap_same obstacles tracks ego tick e i;
  headway =
      λ position heading width tick. headway_same obstacles tracks position heading width tick e i;
  ego_length = l;
  ego_width = w;
  maneuvers = maneuvers;
}
