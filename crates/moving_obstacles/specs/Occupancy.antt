-- Where an obstacle is at a tick, and which space it takes there. The obstacles are CommonRoad's.
-- That a moving obstacle is there only at the ticks of its states is this project's own.
use Rattle.std.specs.Prelude.{ℕ, if◌then◌else◌, ◌==◌, List, map, Option, find, slice_get}
use Rattle.std.specs.Option.{option_map}
use Rattle.fixed_geometry.specs.declared.point.Point.{Point}
use Rattle.scenario_model.specs.declared.obstacle.Obstacle.{Obstacle}
use Rattle.scenario_model.specs.declared.obstacle.Pose.{Pose}
use Rattle.moving_obstacles.specs.Placing.{placed}

-- the first state with the tick, or at every tick the one state of an obstacle that stands
unfoldable pub pose_at : Obstacle → ℕ → Option Pose
pose_at obstacle tick =
    if obstacle.moving then find (λ (pose : Pose). pose.tick == tick) obstacle.states
    else slice_get obstacle.states 0

-- the shapes placed at the pose of the tick, or nothing
unfoldable pub occupancy : Obstacle → ℕ → Option (List (List Point))
occupancy obstacle tick =
    option_map (λ (pose : Pose). map (placed pose) obstacle.shapes) (pose_at obstacle tick)
