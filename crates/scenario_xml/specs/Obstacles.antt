-- Obstacles (CommonRoad XML 2020a and 2018b).
use Rattle.std.specs.Prelude.{ℕ, Bool, true, false, List, [], ◌∷◌, codes, Option, Some, None}
use Rattle.std.specs.Prelude.{Result, Ok, Err, if◌then◌else◌}
use Rattle.std.specs.Str.{bytes_eq}
use Rattle.element_tree.specs.Document.{Document}
use Rattle.element_tree.specs.Trees.{name_of, text_of}
use Rattle.reading.specs.Reading.{◌>>=◌}
use Rattle.scenario_model.specs.declared.obstacle.Obstacle.{Obstacle}
use Rattle.scenario_model.specs.declared.obstacle.Pose.{Pose}
use Rattle.scenario_model.specs.declared.obstacle.Shape.{Shape}
use Rattle.scenario_xml.specs.Elements.{place, child, wanted_child}
use Rattle.scenario_xml.specs.Shapes.{shapes}
use Rattle.scenario_xml.specs.States.{pose, states}
use Rattle.scenario_xml.specs.declared.fault.ScenarioFault.{ScenarioFault}
use Rattle.scenario_xml.specs.declared.fault.ScenarioFault.TheVariants.{Unsupported}
use Rattle.scenario_xml.specs.declared.fault.Wanted.TheVariants as wanted

-- the shapes of obstacle k, which has an id
unfoldable pub obstacle_shapes : Document → ℕ → ℕ → Result (List Shape) ScenarioFault
obstacle_shapes document k id = wanted_child document k wanted.Shape >>= λ s. shapes document s id

-- where an obstacle is: one state where it stands
unfoldable pub obstacle_states : Document → ℕ → Bool → Result (List Pose) ScenarioFault
obstacle_states document k moving =
    wanted_child document k wanted.InitialState >>= λ i.
    pose document i moving >>= λ first.
    if moving then states document k first else Ok (first ∷ [])

abbrev pub obstacle_unless : Document → ℕ → ℕ → Bool → Option ℕ → Result Obstacle ScenarioFault
obstacle_unless document k id moving (Some c) = Err (Unsupported (place document c))
obstacle_unless document k id moving None =
    obstacle_shapes document k id >>= λ all.
    obstacle_states document k moving >>= λ way.
    Ok (record { id = id; moving = moving; shapes = all; states = way })

-- an obstacle with an id, which moves or stands
unfoldable pub obstacle : Document → ℕ → ℕ → Bool → Result Obstacle ScenarioFault
obstacle document k id moving =
    obstacle_unless document k id moving (child document k (codes "occupancySet"))

abbrev pub moves_as : ℕ → Option (List ℕ) → Result Bool ScenarioFault
moves_as at None = Err (Unsupported at)
moves_as at (Some text) =
    if bytes_eq text (codes "static") then Ok false
    else if bytes_eq text (codes "dynamic") then Ok true
    else Err (Unsupported at)

-- whether an `obstacle` moves, by its `role`
unfoldable pub role : Document → ℕ → Result Bool ScenarioFault
role document k =
    wanted_child document k wanted.Role >>= λ r. moves_as (place document r) (text_of document r)

-- whether an obstacle moves: `dynamicObstacle` does, `staticObstacle` does not, and `obstacle` by
-- its role
unfoldable pub moving : Document → ℕ → Result Bool ScenarioFault
moving document k =
    if bytes_eq (name_of document k) (codes "staticObstacle") then Ok false
    else if bytes_eq (name_of document k) (codes "dynamicObstacle") then Ok true
    else role document k

-- an obstacle of any of these names, with an id
unfoldable pub any_obstacle : Document → ℕ → ℕ → Result Obstacle ScenarioFault
any_obstacle document k id = moving document k >>= obstacle document k id
