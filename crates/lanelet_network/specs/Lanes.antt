-- CommonRoad's lanelets as a network keeps them. What a lanelet holds and where it leads is this
-- project's own.
use Rattle.std.specs.Prelude.{◌≡◌, ℕ, Bool, not, ◌&&◌, ◌||◌, ◌==◌, ℤ, pos, int_lt, List, ◌++◌}
use Rattle.std.specs.Prelude.{map, reverse, count_by, slice_get, false, true, All}
use Rattle.std.specs.List.{list_all, list_any}
use Rattle.std.specs.Option.{option_map_or}
use Rattle.fixed_geometry.specs.declared.point.Point.{Point}
use Rattle.fixed_geometry.specs.Polygon.{point_in}
use Rattle.fixed_geometry.specs.Turning.{direction}
use Rattle.fixed_geometry.specs.Vectors.{dot}
use Rattle.scenario_model.specs.declared.lanelet.Lanelet.{Lanelet}
use Rattle.scenario_model.specs.declared.scenario.Scenario.{Scenario}
use Rattle.scenario_model.specs.Scenario.{IsKnown, HaveDifferentIds}
use Rattle.lanelet_network.specs.declared.fault.NetworkFault.{NetworkFault}
use Rattle.lanelet_network.specs.declared.fault.NetworkFault.TheVariants.{UnknownLanelet}
use Rattle.lanelet_network.specs.Bounds.{direction_along}

pub record Lane : Type 0 where
  pub id : ℕ
  -- the left bound
  pub left : List Point
  -- of the closed polygon
  pub corners : List Point
  -- the ids of the known lanelets that follow
  pub successors : List ℕ

-- the left bound, and the right bound from its end
abbrev pub corners_of : Lanelet → List Point
corners_of lanelet = lanelet.left ++ reverse lanelet.right

abbrev pub lane_of : Lanelet → Lane
lane_of lanelet = record {
  id = lanelet.id;
  left = lanelet.left;
  corners = corners_of lanelet;
  successors = lanelet.successors;
}

-- in document order
abbrev pub lanes_of : Scenario → List Lane
lanes_of scenario = map lane_of scenario.lanelets

abbrev pub lane_ids : List Lane → List ℕ
lane_ids lanes = map (λ (lane : Lane). lane.id) lanes

abbrev pub has_id : ℕ → Lane → Bool
has_id id lane = lane.id == id

-- there is no answer, since no lanelet has the id
abbrev pub IsUnknown : List Lane → ℕ → NetworkFault → Type 0
IsUnknown lanes id fault = (fault ≡ UnknownLanelet) × ¬ (IsKnown (lane_ids lanes) id)

-- no two lanelets have one id
abbrev pub HaveOwnIds : List Lane → Type 0
HaveOwnIds lanes = HaveDifferentIds (λ (lane : Lane). lane.id) lanes

-- there is a lanelet with the id, and the fact holds of it
pub record IsOfLanelet (lanes : List Lane) (id : ℕ) (fact : Lane → Type 0) : Type 0 where
  pub known_id : IsKnown (lane_ids lanes) id
  pub each : All (λ (lane : Lane). lane.id ≡ id → fact lane) lanes

-- the lanelet's closed polygon holds the point
abbrev pub holds : Point → Lane → Bool
holds p lane = point_in p lane.corners

-- the lanelet at the index holds the point
unfoldable pub holds_at : List Lane → ℕ → Point → Bool
holds_at lanes index p = option_map_or (holds p) (slice_get lanes index) false

-- how many lanelets hold the point
abbrev pub count_at : List Lane → Point → ℕ
count_at lanes p = count_by (holds p) lanes

-- the lanelet's direction at the point
abbrev pub direction_at : Lane → Point → Point
direction_at lane p = direction_along lane.left p

-- the lanelet leads more back than ahead in the direction
unfoldable pub opposes : Point → Point → Lane → Bool
opposes p ahead lane = int_lt (dot (direction_at lane p) ahead) (pos 0)

-- if the lanelet holds the point, it opposes the direction there
unfoldable pub opposes_if_holding : Point → Point → Lane → Bool
opposes_if_holding p ahead lane = not (holds p lane) || opposes p ahead lane

-- the lanelet at the index, if there is one, opposes the direction at the point if it holds it
unfoldable pub opposes_at : List Lane → Point → Point → ℕ → Bool
opposes_at lanes p ahead index =
    option_map_or (opposes_if_holding p ahead) (slice_get lanes index) true

-- some lanelet holds the point, and each that does opposes the heading there
unfoldable pub is_against : List Lane → Point → ℤ → Bool
is_against lanes p heading =
    list_any (holds p) lanes && list_all (opposes_if_holding p (direction heading)) lanes
