-- What a `Traffic` is seen as: for each obstacle its states in order, each with the shapes placed
-- there.
use Rattle.std.specs.Prelude.{◌≡◌, ℕ, ℤ, if◌then◌else◌, ◌==◌, List, map, count_by, Option, find}
use Rattle.std.specs.Prelude.{slice_get, option_and_then}
use Rattle.std.specs.List.{flat_map}
use Rattle.std.specs.Option.{option_map}
use Rattle.fixed_geometry.specs.declared.point.Point.{Point}
use Rattle.fixed_geometry.specs.declared.point.Box2.{Box2}
use Rattle.fixed_geometry.specs.Turning.{direction}
use Rattle.scenario_model.specs.declared.obstacle.Obstacle.{Obstacle}
use Rattle.scenario_model.specs.declared.obstacle.Pose.{Pose}
use Rattle.scenario_model.specs.declared.obstacle.Shape.{Shape}
use Rattle.moving_obstacles.specs.declared.track.Placement.{Placement}
use Rattle.moving_obstacles.specs.declared.track.Track.{Track}
use Rattle.moving_obstacles.specs.Nearness.{is_met, gaps, distances, least}
use Rattle.moving_obstacles.specs.Placing.{placed}

unfoldable pub placement_of : List Shape → Pose → Placement
placement_of shapes pose = record { pose = pose; shapes = map (placed pose) shapes }

unfoldable pub track_of : Obstacle → Track
track_of obstacle = record {
  moving = obstacle.moving;
  placements = map (placement_of obstacle.shapes) obstacle.states;
}

-- the traffic is that of the obstacles
abbrev pub IsTrafficOf : List Obstacle → List Track → Type 0
IsTrafficOf obstacles tracks = tracks ≡ map track_of obstacles

-- the fact holds of the obstacles that the traffic is of
abbrev pub ForObstacles : List Track → (List Obstacle → Type 0) → Type 0
ForObstacles tracks P = (obstacles : List Obstacle) → IsTrafficOf obstacles tracks → P obstacles

-- the first placement with the tick, or the only one where the obstacle stands
unfoldable pub placement_in : Track → ℕ → Option Placement
placement_in track tick =
    if track.moving then find (λ (p : Placement). p.pose.tick == tick) track.placements
    else slice_get track.placements 0

unfoldable pub pose_in : Track → ℕ → Option Pose
pose_in track tick = option_map (λ (p : Placement). p.pose) (placement_in track tick)

unfoldable pub shapes_in : Track → ℕ → Option (List (List Point))
shapes_in track tick = option_map (λ (p : Placement). p.shapes) (placement_in track tick)

-- ---- what a traffic answers, by its tracks

-- the shapes of the track at the index, placed where it is at the tick
unfoldable pub occupancy_in : List Track → ℕ → ℕ → Option (List (List Point))
occupancy_in tracks index tick =
    option_and_then (λ (t : Track). shapes_in t tick) (slice_get tracks index)

-- how many tracks meet the polygon at the tick
unfoldable pub meeting_in : List Track → List Point → ℕ → ℕ
meeting_in tracks ego tick = count_by (λ (t : Track). is_met ego (shapes_in t tick)) tracks

-- the least box gap to a shape that is placed at the tick
unfoldable pub nearest_gap_in : List Track → Box2 → ℕ → ℤ
nearest_gap_in tracks ego tick =
    least (flat_map (λ (t : Track). gaps ego (shapes_in t tick)) tracks)

-- the least distance to a track that is ahead at the tick
unfoldable pub headway_in : List Track → Point → ℤ → ℤ → ℕ → ℤ
headway_in tracks position heading width tick =
    let unit = direction heading in
    least (flat_map (λ (t : Track). distances position unit width (pose_in t tick)) tracks)
