-- `show SCENARIO`: what the document of a scenario says, in lines.
use Rattle.std.specs.Prelude.{◌≡◌, ℕ, ◌+◌, Bool, true, false, List, ◌++◌, length, codes, None}
use Rattle.std.specs.List.{flat_map}
use Rattle.std.specs.Fmt.{decimal, signed_decimal}
use Rattle.outside_io.specs.Outside.{Files}
use Rattle.text_lines.specs.Lines.{cells}
use Rattle.scenario_model.specs.declared.lanelet.Lanelet.{Lanelet}
use Rattle.scenario_model.specs.declared.obstacle.Obstacle.{Obstacle}
use Rattle.scenario_model.specs.declared.problem.Problem.{Problem}
use Rattle.scenario_model.specs.declared.scenario.Scenario.{Scenario}
use Rattle.scenario_model.specs.declared.scenario.Version.{Version}
use Rattle.scenario_model.specs.declared.scenario.Version.TheVariants.{V2020a, V2018b}
use Rattle.command_outcome.specs.declared.outcome.Status.TheVariants as status
use Rattle.command_outcome.specs.Outcome.{Outcome}
use Rattle.command_outcome.specs.Tasks.{Task}
use Rattle.bound_scene.specs.ScenarioInput.{scenario_input}

abbrev pub version_text : Version → List ℕ
version_text V2020a = codes "2020a"
version_text V2018b = codes "2018b"

-- `lanelet ID points P successors K` and the ids, where P is the number of points of both bounds
unfoldable pub lanelet_line : Lanelet → List ℕ
lanelet_line l =
    codes "lanelet " ++ (decimal l.id ++ (codes " points "
    ++ (decimal (length l.left + length l.right) ++
    (codes " successors " ++ (decimal (length l.successors)
    ++ (cells l.successors ++ codes "\n"))))))

abbrev pub moving_text : Bool → List ℕ
moving_text true = codes "moving"
moving_text false = codes "static"

-- `obstacle ID static states T shapes M`, or moving
unfoldable pub obstacle_line : Obstacle → List ℕ
obstacle_line o =
    codes "obstacle " ++ (decimal o.id ++ (codes " "
    ++ (moving_text o.moving ++ (codes " states "
    ++ (decimal (length o.states) ++ (codes " shapes "
    ++ (decimal (length o.shapes) ++ codes "\n")))))))

-- `problem ID x X y Y heading H speed S tick T goals G`
unfoldable pub problem_line : Problem → List ℕ
problem_line p =
    codes "problem "
    ++ (decimal p.id ++ (codes " x " ++ (signed_decimal p.start.position.x
    ++ (codes " y " ++ (signed_decimal p.start.position.y
    ++ (codes " heading " ++ (signed_decimal p.start.heading
    ++ (codes " speed " ++ (signed_decimal p.start.speed
    ++ (codes " tick " ++ (decimal p.start.tick ++
    (codes " goals " ++ (decimal (length p.goals) ++ codes "\n")))))))))))))

-- `version V`, `step MICROS`
abbrev pub head_lines : Scenario → List ℕ
head_lines s =
    codes "version " ++ (version_text s.version ++
    (codes "\nstep " ++ (signed_decimal s.step_micros ++ codes "\n")))

-- `lanelets N`, and a line for each; and so on
abbrev pub lanelet_lines : List Lanelet → List ℕ
lanelet_lines lanelets =
    codes "lanelets " ++ (decimal (length lanelets)
    ++ (codes "\n" ++ flat_map lanelet_line lanelets))

abbrev pub obstacle_lines : List Obstacle → List ℕ
obstacle_lines obstacles =
    codes "obstacles " ++ (decimal (length obstacles)
    ++ (codes "\n" ++ flat_map obstacle_line obstacles))

abbrev pub problem_lines : List Problem → List ℕ
problem_lines problems =
    codes "problems " ++ (decimal (length problems)
    ++ (codes "\n" ++ flat_map problem_line problems))

abbrev pub show_text : Scenario → List ℕ
show_text s =
    head_lines s ++ (lanelet_lines s.lanelets ++ (obstacle_lines s.obstacles
    ++ problem_lines s.problems))

-- what is made of the input: the files stay
abbrev pub ShowMakes : Files → Scenario → Outcome → Type 0
ShowMakes files scenario outcome =
    outcome ≡ record { status = status.Done; text = show_text scenario; files = files }

abbrev pub show_task : List ℕ → Task
show_task name =
    record { Input = Scenario; inputs = scenario_input name; Makes = ShowMakes; saves = None }
