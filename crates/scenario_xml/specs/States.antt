-- The states of obstacles and of the starts of problems (CommonRoad XML 2020a and 2018b).
use Rattle.std.specs.Prelude.{ℕ, ◌++◌, Bool, true, List, [], ◌∷◌, ℤ, pos, unsigned_abs, codes}
use Rattle.std.specs.Prelude.{Option, Some, None, Result, Ok, Err, if◌then◌else◌}
use Rattle.std.specs.Str.{bytes_eq}
use Rattle.element_tree.specs.Document.{Document}
use Rattle.element_tree.specs.Trees.{name_of, children}
use Rattle.fixed_geometry.specs.declared.point.Point.{Point}
use Rattle.reading.specs.Reading.{◌>>=◌, read_all}
use Rattle.scenario_model.specs.declared.obstacle.Pose.{Pose}
use Rattle.scenario_xml.specs.Elements.{place, child, wanted_child, exact, optional_exact}
use Rattle.scenario_xml.specs.Shapes.{point}
use Rattle.scenario_xml.specs.declared.fault.ScenarioFault.{ScenarioFault}
use Rattle.scenario_xml.specs.declared.fault.ScenarioFault.TheVariants.{Missing}
use Rattle.scenario_xml.specs.declared.fault.Wanted.TheVariants as wanted
use Rattle.scenario_xml.specs.declared.quantity.Quantity.TheVariants.{Angle, Speed, Tick}

-- `position` with `point`
unfoldable pub position : Document → ℕ → Result Point ScenarioFault
position document k =
    wanted_child document k wanted.Position >>= λ p.
    wanted_child document p wanted.Point >>= point document

abbrev pub time_at : Document → ℕ → Bool → Option ℕ → Result ℤ ScenarioFault
time_at document k needed None =
    if needed then Err (Missing wanted.Time (place document k)) else Ok (pos 0)
time_at document k needed (Some t) = exact document t Tick

-- `time` with `exact`; where it is not needed it may be absent, and counts as 0 then
unfoldable pub time : Document → ℕ → Bool → Result ℕ ScenarioFault
time document k needed =
    time_at document k needed (child document k (codes "time")) >>= λ t. Ok (unsigned_abs t)

unfoldable pub heading : Document → ℕ → Result ℤ ScenarioFault
heading document k = optional_exact document k (codes "orientation") Angle

unfoldable pub speed : Document → ℕ → Result ℤ ScenarioFault
speed document k = optional_exact document k (codes "velocity") Speed

-- a state
unfoldable pub pose : Document → ℕ → Bool → Result Pose ScenarioFault
pose document k timed =
    position document k >>= λ at.
    heading document k >>= λ angle.
    speed document k >>= λ pace.
    time document k timed >>= λ tick.
    Ok (record { tick = tick; position = at; heading = angle; speed = pace })

-- a child of `trajectory`, after the states before it
unfoldable pub state_step : Document → ℕ → List Pose → Result (List Pose) ScenarioFault
state_step document k states =
    if bytes_eq (name_of document k) (codes "state") then
    (pose document k true >>= λ p. Ok (states ++ p ∷ []))
    else Ok states

abbrev pub states_at : Document → List Pose → Option ℕ → Result (List Pose) ScenarioFault
states_at document states None = Ok states
states_at document states (Some t) = read_all (state_step document) (children document t) states

-- the states of an obstacle that moves, the initial one first
unfoldable pub states : Document → ℕ → Pose → Result (List Pose) ScenarioFault
states document k first = states_at document (first ∷ []) (child document k (codes "trajectory"))
