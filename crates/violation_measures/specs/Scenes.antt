-- The features of a scene: the table of their names, values and bounds. This project's own.
use Rattle.std.specs.Prelude.{◌≡◌, ◌↔◌, ℕ, ◌+◌, ◌-◌, ◌<◌, ℤ, pos, neg_ℤ, Bool, false, not, ◌==◌}
use Rattle.std.specs.Prelude.{List, count_by, Option, Some, None, IsSome, if◌then◌else◌, codes}
use Rattle.std.specs.Prelude.{nat_lt}
use Rattle.std.specs.List.{list_any, position}
use Rattle.std.specs.Option.{option_map}
use Rattle.std.specs.Str.{bytes_eq}
use Rattle.fixed_geometry.specs.declared.point.Point.{Point}
use Rattle.fixed_geometry.specs.declared.point.Box2.{Box2}
use Rattle.fixed_geometry.specs.Boxes.{bounds}
use Rattle.fixed_geometry.specs.Shapes.{rectangle}
use Rattle.scenario_model.specs.declared.obstacle.Obstacle.{Obstacle}
use Rattle.scenario_model.specs.declared.problem.Span.{Span}
use Rattle.lanelet_network.specs.Lanes.{Lane, has_id, holds, holds_at, count_at, is_against}
use Rattle.moving_obstacles.specs.Nearness.{meeting, nearest_gap, headway}
use Rattle.expressions.specs.declared.tree.Argument.{Argument}
use Rattle.expressions.specs.declared.tree.Argument.TheVariants.{Named, Number}
use Rattle.violation_measures.specs.Intervals.{from_to}
use Rattle.violation_measures.specs.Sources.{Features}
use Rattle.violation_measures.specs.declared.feature.Feature.{Feature}
use Rattle.violation_measures.specs.declared.feature.Feature.TheVariants as feature
use Rattle.violation_measures.specs.declared.feature.TheConstants.{FIRST_LANELET, FIRST_MANEUVER}
use Rattle.violation_measures.specs.declared.feature.TheConstants.{PAST_FEATURES}
use Rattle.scenario_model.specs.declared.limits.TheConstants.{MAX_OBSTACLES, MAX_LANELETS}
use Rattle.moving_obstacles.specs.declared.limits.TheConstants.{MAX_DISTANCE}
use Rattle.violation_measures.specs.declared.step.Step.{Step}
use Rattle.violation_measures.specs.declared.step.TheConstants.{MAX_TICK, MAX_SPEED, MAX_TURN}

-- the lanelets, what the obstacles take up at each tick, the size of the ego vehicle, and the names
-- of the maneuvers
pub record Scene : Type 0 where
  pub lanes : List Lane
  -- how many obstacles meet a polygon at a tick
  pub meeting : List Point → ℕ → ℕ
  -- the least gap of a box to an obstacle at a tick
  pub nearest_gap : Box2 → ℕ → ℤ
  -- how far ahead of a position, along a heading and within a width, the next obstacle is at a tick
  pub headway : Point → ℤ → ℤ → ℕ → ℤ
  pub ego_length : ℤ
  pub ego_width : ℤ
  pub maneuvers : List (List ℕ)

-- a scene among obstacles
abbrev pub scene_among : List Lane → List Obstacle → ℤ → ℤ → List (List ℕ) → Scene
scene_among lanes obstacles ego_length ego_width maneuvers = record {
  lanes = lanes;
  meeting = meeting obstacles;
  nearest_gap = nearest_gap obstacles;
  headway = headway obstacles;
  ego_length = ego_length;
  ego_width = ego_width;
  maneuvers = maneuvers;
}

-- the position of a step, which is the center of the ego vehicle
abbrev pub center : Step → Point
center step = record { x = step.x; y = step.y }

-- the ego polygon: the rectangle of the vehicle's size at the step's position and heading
unfoldable pub ego : Scene → Step → List Point
ego scene step = rectangle (center step) step.heading scene.ego_length scene.ego_width

abbrev pub one_if : Bool → ℤ
one_if test = if test then pos 1 else pos 0

-- the step belongs to the maneuver at the place
abbrev pub is_driven : Option ℕ → ℕ → Bool
is_driven None place = false
is_driven (Some driven) place = driven == place

-- ---- the table: names, values, bounds

-- the feature of a name without argument
unfoldable pub plain : List ℕ → Option Feature
plain name =
    if bytes_eq name (codes "overlaps") then Some feature.Overlaps
    else if bytes_eq name (codes "off_road") then Some feature.OffRoad
    else if bytes_eq name (codes "lanes") then Some feature.Lanes
    else if bytes_eq name (codes "wrong_way") then Some feature.WrongWay
    else if bytes_eq name (codes "speed") then Some feature.Speed
    else if bytes_eq name (codes "accel") then Some feature.Accel
    else if bytes_eq name (codes "turn") then Some feature.Turn
    else if bytes_eq name (codes "tick") then Some feature.Tick
    else if bytes_eq name (codes "gap") then Some feature.Gap
    else if bytes_eq name (codes "headway") then Some feature.Headway
    else None

-- in the lanelet with the id, which is known
unfoldable pub in_lanelet : List Lane → List ℕ → ℕ → Option Feature
in_lanelet lanes name id =
    if bytes_eq name (codes "in_lanelet") then option_map feature.InLanelet
    (position (has_id id) lanes) else None

-- the maneuver of the name, which is one of the names
unfoldable pub maneuver : List (List ℕ) → List ℕ → List ℕ → Option Feature
maneuver names name about =
    if bytes_eq name (codes "maneuver") then option_map feature.Maneuver
    (position (λ other. bytes_eq other about) names) else None

-- the feature of a name and an argument, and none for all else
abbrev pub feature_named : Scene → List ℕ → Option Argument → Option Feature
feature_named scene name None = plain name
feature_named scene name (Some (Number id)) = in_lanelet scene.lanes name id
feature_named scene name (Some (Named about)) = maneuver scene.maneuvers name about

-- the value at a step
abbrev pub value_in : Scene → Feature → Step → ℤ
value_in scene feature.Overlaps step = pos (scene.meeting (ego scene step) step.tick)
value_in scene feature.OffRoad step =
    pos (count_by (λ corner. not (list_any (holds corner) scene.lanes)) (ego scene step))
value_in scene feature.Lanes step = pos (count_at scene.lanes (center step))
value_in scene feature.WrongWay step = one_if (is_against scene.lanes (center step) step.heading)
value_in scene feature.Speed step = step.speed
value_in scene feature.Accel step = step.accel
value_in scene feature.Turn step = step.turn
value_in scene feature.Tick step = pos step.tick
value_in scene feature.Gap step = scene.nearest_gap (bounds (ego scene step)) step.tick
value_in scene feature.Headway step =
    scene.headway (center step) step.heading scene.ego_width step.tick
value_in scene (feature.InLanelet place) step = one_if (holds_at scene.lanes place (center step))
value_in scene (feature.Maneuver place) step = one_if (is_driven step.maneuver place)

-- from 0 to the number
abbrev pub up_to : ℤ → Span
up_to high = from_to (pos 0) high

-- at most the number in size
abbrev pub either_way : ℤ → Span
either_way size = from_to (neg_ℤ size) size

-- the bounds
abbrev pub bounds_in : Feature → Span
bounds_in feature.Overlaps = up_to (pos MAX_OBSTACLES)
bounds_in feature.OffRoad = up_to (pos 4)
bounds_in feature.Lanes = up_to (pos MAX_LANELETS)
bounds_in feature.WrongWay = up_to (pos 1)
bounds_in feature.Speed = either_way MAX_SPEED
bounds_in feature.Accel = either_way MAX_SPEED
bounds_in feature.Turn = either_way MAX_TURN
bounds_in feature.Tick = up_to (pos MAX_TICK)
bounds_in feature.Gap = up_to MAX_DISTANCE
bounds_in feature.Headway = up_to MAX_DISTANCE
bounds_in (feature.InLanelet place) = up_to (pos 1)
bounds_in (feature.Maneuver place) = up_to (pos 1)

-- ---- the numbers of the features

abbrev pub number : Feature → ℕ
number feature.Overlaps = 0
number feature.OffRoad = 1
number feature.Lanes = 2
number feature.WrongWay = 3
number feature.Speed = 4
number feature.Accel = 5
number feature.Turn = 6
number feature.Tick = 7
number feature.Gap = 8
number feature.Headway = 9
number (feature.InLanelet place) = FIRST_LANELET + place
number (feature.Maneuver place) = FIRST_MANEUVER + place

-- the feature of a number
unfoldable pub numbered : ℕ → Feature
numbered n =
    if nat_lt n FIRST_LANELET then
    (if n == 0 then feature.Overlaps
    else if n == 1 then feature.OffRoad
    else if n == 2 then feature.Lanes
    else if n == 3 then feature.WrongWay
    else if n == 4 then feature.Speed
    else if n == 5 then feature.Accel
    else if n == 6 then feature.Turn
    else if n == 7 then feature.Tick
    else if n == 8 then feature.Gap
    else feature.Headway)
    else if nat_lt n FIRST_MANEUVER then feature.InLanelet (n - FIRST_LANELET)
    else feature.Maneuver (n - FIRST_MANEUVER)

-- what a source of the scene's features answers
abbrev pub features_of : Scene → Features
features_of scene = record {
  find = λ name argument. option_map number (feature_named scene name argument);
  bounds = λ n. bounds_in (numbered n);
  value = λ n step. value_in scene (numbered n) step;
}

-- the source knows exactly the features of the scene's table, each with its value and its bounds
-- there; each has a number of its own, below 10,000
pub record HasTable (scene : Scene) (f : Features) : Type 0 where
  pub exactly : (name : List ℕ) (argument : Option Argument) → IsSome (f.find name argument)
      ↔ IsSome (feature_named scene name argument)
  pub value : (name : List ℕ) (argument : Option Argument) (n : ℕ) (row : Feature)
      → f.find name argument ≡ Some n → feature_named scene name argument ≡ Some row → (step : Step)
      → f.value n step ≡ value_in scene row step
  pub bounds : (name : List ℕ) (argument : Option Argument) (n : ℕ) (row : Feature)
      → f.find name argument ≡ Some n → feature_named scene name argument ≡ Some row
      → f.bounds n ≡ bounds_in row
  pub small : (name : List ℕ) (argument : Option Argument) (n : ℕ) → f.find name argument ≡ Some n
      → n < PAST_FEATURES
  pub own : (name other : List ℕ) (argument another : Option Argument) (n : ℕ)
      → f.find name argument ≡ Some n → f.find other another ≡ Some n
      → (name ≡ other) × (argument ≡ another)
