-- How many obstacles meet a polygon at a tick, and how near the obstacles are: this project's own.
use Rattle.std.specs.Prelude.{◌≡◌, ◌⊎◌, ◌≤ℤ◌, All, Contains, ℕ, Bool, false, if◌then◌else◌, ◌&&◌}
use Rattle.std.specs.Prelude.{ℤ, pos, int_lt, int_le, unsigned_abs, List, [], ◌∷◌, map, count_by}
use Rattle.std.specs.Prelude.{Option, None, Some}
use Rattle.std.specs.List.{fold, flat_map, list_any}
use Rattle.std.specs.Int.{int_min}
use Rattle.fixed_geometry.specs.declared.point.Point.{Point}
use Rattle.fixed_geometry.specs.declared.point.Box2.{Box2}
use Rattle.fixed_geometry.specs.Boxes.{bounds, box_gap}
use Rattle.fixed_geometry.specs.Polygon.{polygons_meet}
use Rattle.fixed_geometry.specs.Turning.{direction}
use Rattle.fixed_geometry.specs.Vectors.{ahead, beside}
use Rattle.scenario_model.specs.declared.obstacle.Obstacle.{Obstacle}
use Rattle.scenario_model.specs.declared.obstacle.Pose.{Pose}
use Rattle.moving_obstacles.specs.declared.limits.TheConstants.{MAX_DISTANCE}
use Rattle.moving_obstacles.specs.Occupancy.{pose_at, occupancy}

-- one of the placed shapes meets the polygon; nothing does where there are none
unfoldable pub is_met : List Point → Option (List (List Point)) → Bool
is_met ego None = false
is_met ego (Some shapes) = list_any (polygons_meet ego) shapes

-- how many obstacles meet the polygon at the tick
unfoldable pub meeting : List Obstacle → List Point → ℕ → ℕ
meeting obstacles ego tick = count_by (λ (o : Obstacle). is_met ego (occupancy o tick)) obstacles

-- the least of the numbers, and `MAX_DISTANCE` at most
unfoldable pub least : List ℤ → ℤ
least numbers = fold int_min MAX_DISTANCE numbers

-- none of the numbers is below it, nor is `MAX_DISTANCE`, and it is one of these
pub record IsLeast (numbers : List ℤ) (number : ℤ) : Type 0 where
  pub most : number ≤ℤ MAX_DISTANCE
  pub below : All (λ n. number ≤ℤ n) numbers
  pub reached : (number ≡ MAX_DISTANCE) ⊎ Contains numbers number

-- the box gaps to the placed shapes
unfoldable pub gaps : Box2 → Option (List (List Point)) → List ℤ
gaps ego None = []
gaps ego (Some shapes) = map (λ corners. box_gap ego (bounds corners)) shapes

-- the box gaps to all placed shapes of the obstacles that are there at the tick
unfoldable pub all_gaps : List Obstacle → Box2 → ℕ → List ℤ
all_gaps obstacles ego tick = flat_map (λ (o : Obstacle). gaps ego (occupancy o tick)) obstacles

unfoldable pub nearest_gap : List Obstacle → Box2 → ℕ → ℤ
nearest_gap obstacles ego tick = least (all_gaps obstacles ego tick)

-- how far the pose is from the position along the direction d
abbrev pub along : Point → Point → Pose → ℤ
along position d pose = ahead position d pose.position

-- how far it is to the left of it
abbrev pub side : Point → Point → Pose → ℤ
side position d pose = beside position d pose.position

-- the pose is ahead, and no farther to a side than the width
unfoldable pub is_ahead : Point → Point → ℤ → Pose → Bool
is_ahead position d width pose =
    int_lt (pos 0) (along position d pose)
    && int_le (pos (unsigned_abs (side position d pose))) width

-- the distance to the pose, where it is ahead
unfoldable pub distances : Point → Point → ℤ → Option Pose → List ℤ
distances position d width None = []
distances position d width (Some pose) =
    if is_ahead position d width pose then along position d pose ∷ [] else []

-- the distances to all obstacles that are ahead at the tick
unfoldable pub all_distances : List Obstacle → Point → ℤ → ℤ → ℕ → List ℤ
all_distances obstacles position heading width tick =
    let unit = direction heading in
    flat_map (λ (o : Obstacle). distances position unit width (pose_at o tick)) obstacles

unfoldable pub headway : List Obstacle → Point → ℤ → ℤ → ℕ → ℤ
headway obstacles position heading width tick =
    least (all_distances obstacles position heading width tick)
