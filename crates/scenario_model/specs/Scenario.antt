-- When a scenario is well formed: the ranges of its numbers and lists, different ids, known
-- references.
-- The elements are those of CommonRoad 2020a; the limits are this project's own.
use Rattle.std.specs.Prelude.{◌≡◌, ◌≢◌, ℕ, ◌≤◌, ◌<◌, Bool, true, false, List, length, map, All, Any}
use Rattle.std.specs.Prelude.{IfSome, sum, unsigned_abs, pos, ◌≤ℤ◌}
use Rattle.std.specs.List.{AllPairs}
use Rattle.fixed_geometry.specs.declared.point.Point.{Point}
use Rattle.fixed_geometry.specs.Plane.{IsWithin}
use Rattle.fixed_geometry.specs.Shapes.{IsExtent}
use Rattle.scenario_model.specs.declared.limits.TheConstants.{MAX_LANELETS, MAX_OBSTACLES}
use Rattle.scenario_model.specs.declared.limits.TheConstants.{MAX_PROBLEMS}
use Rattle.scenario_model.specs.declared.limits.TheConstants.{MAX_GOALS, MAX_REGIONS}
use Rattle.scenario_model.specs.declared.limits.TheConstants.{MAX_BOUND_POINTS}
use Rattle.scenario_model.specs.declared.limits.TheConstants.{MAX_CORNERS, RECTANGLE_CORNERS}
use Rattle.fixed_geometry.specs.declared.limits.TheConstants.{CIRCLE_CORNERS, MIN_POLYGON_CORNERS}
use Rattle.scenario_model.specs.declared.limits.TheConstants.{PAST_IDS, MAX_COORDINATE, MAX_HEADING}
use Rattle.scenario_model.specs.declared.limits.TheConstants.{MAX_SPEED, MAX_TICK, MAX_STEP_MICROS}
use Rattle.scenario_model.specs.declared.lanelet.Adjacent.{Adjacent}
use Rattle.scenario_model.specs.declared.lanelet.Lanelet.{Lanelet}
use Rattle.scenario_model.specs.declared.obstacle.Obstacle.{Obstacle}
use Rattle.scenario_model.specs.declared.obstacle.Pose.{Pose}
use Rattle.scenario_model.specs.declared.obstacle.Shape.{Shape}
use Rattle.scenario_model.specs.declared.obstacle.Shape.TheVariants as shape
use Rattle.scenario_model.specs.declared.problem.Goal.{Goal}
use Rattle.scenario_model.specs.declared.problem.Problem.{Problem}
use Rattle.scenario_model.specs.declared.problem.Region.{Region}
use Rattle.scenario_model.specs.declared.problem.Region.TheVariants as region
use Rattle.scenario_model.specs.declared.problem.Span.{Span}
use Rattle.scenario_model.specs.declared.scenario.Scenario.{Scenario}

-- coordinates of at most `MAX_COORDINATE` in size, in 0.1 mm
abbrev pub IsRead : Point → Type 0
IsRead p = IsWithin MAX_COORDINATE p

-- two items have never one id
abbrev pub HaveDifferentIds : {X : Type 0} → (X → ℕ) → List X → Type 0
HaveDifferentIds id_of items = AllPairs (λ x y. id_of x ≢ id_of y) items

abbrev pub lanelet_ids : Scenario → List ℕ
lanelet_ids scenario = map (λ (l : Lanelet). l.id) scenario.lanelets

-- the id of one of the lanelets
abbrev pub IsKnown : List ℕ → ℕ → Type 0
IsKnown ids id = Any (λ known. known ≡ id) ids

-- how many corners a shape counts for
abbrev pub corner_count : Shape → ℕ
corner_count (shape.Rectangle length width heading center) = RECTANGLE_CORNERS
corner_count (shape.Circle radius center) = CIRCLE_CORNERS
corner_count (shape.Corners corners) = length corners

abbrev pub IsShape : Shape → Type 0
IsShape (shape.Rectangle length width heading center) =
    IsExtent length × IsExtent width × (unsigned_abs heading ≤ MAX_HEADING) × IsRead center
IsShape (shape.Circle radius center) = IsExtent radius × IsRead center
IsShape (shape.Corners corners) =
    (MIN_POLYGON_CORNERS ≤ length corners) × (length corners ≤ MAX_CORNERS) × All IsRead corners

pub record IsPose (pose : Pose) : Type 0 where
  pub tick : pose.tick ≤ MAX_TICK
  pub position : IsRead pose.position
  pub heading : unsigned_abs pose.heading ≤ MAX_HEADING
  pub speed : unsigned_abs pose.speed ≤ MAX_SPEED

abbrev pub IsBound : List Point → Type 0
IsBound points =
    (2 ≤ length points) × (length points ≤ MAX_BOUND_POINTS) × All IsRead points

pub record IsLanelet (ids : List ℕ) (lanelet : Lanelet) : Type 0 where
  pub id : lanelet.id < PAST_IDS
  pub left : IsBound lanelet.left
  pub right : IsBound lanelet.right
  pub predecessors : All (IsKnown ids) lanelet.predecessors
  pub successors : All (IsKnown ids) lanelet.successors
  pub adjacent_left : IfSome lanelet.adjacent_left (λ (a : Adjacent). IsKnown ids a.id)
  pub adjacent_right : IfSome lanelet.adjacent_right (λ (a : Adjacent). IsKnown ids a.id)

-- an obstacle that stands has one state
abbrev pub IsStateCount : Bool → ℕ → Type 0
IsStateCount true count = 1 ≤ count
IsStateCount false count = count ≡ 1

pub record IsObstacle (obstacle : Obstacle) : Type 0 where
  pub id : obstacle.id < PAST_IDS
  pub shaped : 1 ≤ length obstacle.shapes
  pub shapes : All IsShape obstacle.shapes
  pub corners : sum (map corner_count obstacle.shapes) ≤ MAX_CORNERS
  pub state_count : IsStateCount obstacle.moving (length obstacle.states)
  pub states : All IsPose obstacle.states

abbrev pub IsRegion : List ℕ → Region → Type 0
IsRegion ids (region.Inside shape) = IsShape shape
IsRegion ids (region.OnLanelet id) = IsKnown ids id

-- both ends are at most so large in size
abbrev pub IsSpan : ℕ → Span → Type 0
IsSpan most span = (unsigned_abs span.low ≤ most) × (unsigned_abs span.high ≤ most)

pub record IsGoal (ids : List ℕ) (goal : Goal) : Type 0 where
  pub first_tick : goal.first_tick ≤ MAX_TICK
  pub last_tick : goal.last_tick ≤ MAX_TICK
  pub few : length goal.regions ≤ MAX_REGIONS
  pub regions : All (IsRegion ids) goal.regions
  pub heading : IfSome goal.heading (IsSpan MAX_HEADING)
  pub speed : IfSome goal.speed (IsSpan MAX_SPEED)

pub record IsProblem (ids : List ℕ) (problem : Problem) : Type 0 where
  pub id : problem.id < PAST_IDS
  pub start : IsPose problem.start
  pub some : 1 ≤ length problem.goals
  pub few : length problem.goals ≤ MAX_GOALS
  pub goals : All (IsGoal ids) problem.goals

pub record IsScenario (scenario : Scenario) : Type 0 where
  pub step : (pos 1 ≤ℤ scenario.step_micros) × (scenario.step_micros ≤ℤ MAX_STEP_MICROS)
  pub lanelet_count : length scenario.lanelets ≤ MAX_LANELETS
  pub lanelets : All (IsLanelet (lanelet_ids scenario)) scenario.lanelets
  pub different_lanelets : HaveDifferentIds (λ (l : Lanelet). l.id) scenario.lanelets
  pub obstacle_count : length scenario.obstacles ≤ MAX_OBSTACLES
  pub obstacles : All IsObstacle scenario.obstacles
  pub different_obstacles : HaveDifferentIds (λ (o : Obstacle). o.id) scenario.obstacles
  pub problem_count :
      (1 ≤ length scenario.problems) × (length scenario.problems ≤ MAX_PROBLEMS)
  pub problems : All (IsProblem (lanelet_ids scenario)) scenario.problems
  pub different_problems : HaveDifferentIds (λ (p : Problem). p.id) scenario.problems
