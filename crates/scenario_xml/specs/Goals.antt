-- Planning problems and their goals (CommonRoad XML 2020a and 2018b). The limits are this project's
-- own.
use Rattle.std.specs.Prelude.{ℕ, ◌++◌, Bool, false, not, ◌||◌, ◌==◌, List, [], ◌∷◌, length}
use Rattle.std.specs.Prelude.{unsigned_abs, nat_le, codes, option_map, Option, Some, None, Result}
use Rattle.std.specs.Prelude.{Ok, Err, if◌then◌else◌}
use Rattle.std.specs.Str.{bytes_eq}
use Rattle.element_tree.specs.Document.{Document}
use Rattle.element_tree.specs.Trees.{name_of, children}
use Rattle.reading.specs.Reading.{◌>>=◌, read_all}
use Rattle.scenario_model.specs.declared.problem.Goal.{Goal}
use Rattle.scenario_model.specs.declared.problem.Problem.{Problem}
use Rattle.scenario_model.specs.declared.problem.Region.{Region}
use Rattle.scenario_model.specs.declared.problem.Region.TheVariants.{Inside, OnLanelet}
use Rattle.scenario_model.specs.declared.problem.Span.{Span}
use Rattle.scenario_xml.specs.Elements.{place, child, wanted_child, number, wanted_number}
use Rattle.scenario_xml.specs.Elements.{id_attribute}
use Rattle.scenario_xml.specs.Shapes.{any_shape}
use Rattle.scenario_xml.specs.States.{pose}
use Rattle.scenario_xml.specs.declared.fault.Kind.TheVariants as kind
use Rattle.scenario_xml.specs.declared.fault.ScenarioFault.{ScenarioFault}
use Rattle.scenario_xml.specs.declared.fault.ScenarioFault.TheVariants.{Missing, TooMany}
use Rattle.scenario_xml.specs.declared.fault.Wanted.TheVariants as wanted
use Rattle.scenario_xml.specs.declared.goal.GoalsSoFar.{GoalsSoFar}
use Rattle.scenario_xml.specs.declared.quantity.Quantity.{Quantity}
use Rattle.scenario_xml.specs.declared.quantity.Quantity.TheVariants.{Angle, Speed, Tick}
use Rattle.scenario_xml.specs.declared.region.RegionsSoFar.{RegionsSoFar}
use Rattle.scenario_model.specs.declared.limits.TheConstants.{MAX_GOALS, MAX_REGIONS}

abbrev pub span_at : Document → ℕ → Quantity → Option ℕ → Result Span ScenarioFault
span_at document k quantity (Some e) =
    number document e quantity >>= λ n. Ok (record { low = n; high = n })
span_at document k quantity None =
    wanted_number document k wanted.IntervalStart quantity >>= λ low.
    wanted_number document k wanted.IntervalEnd quantity >>= λ high.
    Ok (record { low = low; high = high })

-- `exact`, or else `intervalStart` and `intervalEnd`
unfoldable pub span : Document → ℕ → Quantity → Result Span ScenarioFault
span document k quantity = span_at document k quantity (child document k (codes "exact"))

abbrev pub some_span : Document → Quantity → Option ℕ → Result (Option Span) ScenarioFault
some_span document quantity None = Ok None
some_span document quantity (Some c) = span document c quantity >>= λ s. Ok (Some s)

-- the span in a child that may be absent
unfoldable pub optional_span : Document → ℕ → List ℕ → Quantity → Result (Option Span) ScenarioFault
optional_span document k name quantity = some_span document quantity (child document k name)

unfoldable pub heading_span : Document → ℕ → Result (Option Span) ScenarioFault
heading_span document k = optional_span document k (codes "orientation") Angle

unfoldable pub speed_span : Document → ℕ → Result (Option Span) ScenarioFault
speed_span document k = optional_span document k (codes "velocity") Speed

-- the ticks of a goal
unfoldable pub ticks : Document → ℕ → Result Span ScenarioFault
ticks document k = wanted_child document k wanted.Time >>= λ t. span document t Tick

-- the name of a region
unfoldable pub is_region : List ℕ → Bool
is_region name =
    bytes_eq name (codes "rectangle") || bytes_eq name (codes "circle")
    || bytes_eq name (codes "polygon") || bytes_eq name (codes "lanelet")

-- the region that element k is, none where its name is no region's
unfoldable pub any_region : Document → ℕ → ℕ → Result (Option Region) ScenarioFault
any_region document k id =
    if bytes_eq (name_of document k) (codes "lanelet") then
    (id_attribute document k wanted.Ref >>= λ lane. Ok (Some (OnLanelet lane)))
    else (any_shape document k id >>= λ shape. Ok (option_map Inside shape))

abbrev pub with_region : RegionsSoFar → Option Region → Result RegionsSoFar ScenarioFault
with_region s None = Ok s
with_region s (Some region) = Ok (record s { regions = s.regions ++ region ∷ [] })

-- a child of `position`, after the regions before it
unfoldable pub region_step : Document → ℕ → RegionsSoFar → Result RegionsSoFar ScenarioFault
region_step document k s =
    if not (is_region (name_of document k)) then Ok s
    else if nat_le MAX_REGIONS (length s.regions) then Err (TooMany kind.Region)
    else (any_region document k s.id >>= with_region s)

abbrev pub some_regions : ℕ → RegionsSoFar → Result (List Region) ScenarioFault
some_regions at s = if length s.regions == 0 then Err (Missing wanted.Position at) else Ok s.regions

abbrev pub regions_at : Document → ℕ → ℕ → Option ℕ → Result (List Region) ScenarioFault
regions_at document k id None = Ok []
regions_at document k id (Some p) =
    read_all (region_step document) (children document p) (record { id = id; regions = [] })
    >>= some_regions (place document k)

-- the regions of goal k, of the problem with an id
unfoldable pub regions : Document → ℕ → ℕ → Result (List Region) ScenarioFault
regions document k id = regions_at document k id (child document k (codes "position"))

-- `goalState`, of the problem with an id
unfoldable pub goal : Document → ℕ → ℕ → Result Goal ScenarioFault
goal document k id =
    ticks document k >>= λ time.
    regions document k id >>= λ places.
    heading_span document k >>= λ heading.
    speed_span document k >>= λ speed.
    Ok (record {
      first_tick = unsigned_abs time.low;
      last_tick = unsigned_abs time.high;
      regions = places;
      heading = heading;
      speed = speed;
    })

-- a child of `planningProblem`, after the goals before it
unfoldable pub goal_step : Document → ℕ → GoalsSoFar → Result GoalsSoFar ScenarioFault
goal_step document k s =
    if not (bytes_eq (name_of document k) (codes "goalState")) then Ok s
    else if nat_le MAX_GOALS (length s.goals) then Err (TooMany kind.Goal)
    else (goal document k s.id >>= λ g. Ok (record s { goals = s.goals ++ g ∷ [] }))

abbrev pub some_goals : ℕ → GoalsSoFar → Result (List Goal) ScenarioFault
some_goals at s = if length s.goals == 0 then Err (Missing wanted.GoalState at) else Ok s.goals

-- the goals of problem k
unfoldable pub goals : Document → ℕ → ℕ → Result (List Goal) ScenarioFault
goals document k id =
    read_all (goal_step document) (children document k) (record { id = id; goals = [] })
    >>= some_goals (place document k)

-- `planningProblem` with an id
unfoldable pub problem : Document → ℕ → ℕ → Result Problem ScenarioFault
problem document k id =
    wanted_child document k wanted.InitialState >>= λ state.
    pose document state false >>= λ start.
    goals document k id >>= λ all.
    Ok (record { id = id; start = start; goals = all })
