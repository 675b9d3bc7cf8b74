-- The scenario of a document, or its first fault (CommonRoad XML 2020a and 2018b). The limits are
-- this project's own.
use Rattle.std.specs.Prelude.{ℕ, ◌++◌, Bool, true, false, ◌==◌, List, [], ◌∷◌, length, ℤ, nat_le}
use Rattle.std.specs.Prelude.{codes, Option, Some, None, Result, Ok, Err, if◌then◌else◌}
use Rattle.std.specs.List.{list_any}
use Rattle.std.specs.Str.{bytes_eq}
use Rattle.element_tree.specs.declared.fault.MarkupFault.{MarkupFault}
use Rattle.element_tree.specs.declared.node.Node.{Node}
use Rattle.element_tree.specs.Document.{Document}
use Rattle.element_tree.specs.Documents.{markup}
use Rattle.element_tree.specs.Trees.{name_of, children}
use Rattle.reading.specs.Reading.{◌>>=◌, read_all}
use Rattle.scenario_model.specs.declared.lanelet.Lanelet.{Lanelet}
use Rattle.scenario_model.specs.declared.obstacle.Obstacle.{Obstacle}
use Rattle.scenario_model.specs.declared.problem.Goal.{Goal}
use Rattle.scenario_model.specs.declared.problem.Problem.{Problem}
use Rattle.scenario_model.specs.declared.problem.Region.{Region}
use Rattle.scenario_model.specs.declared.problem.Region.TheVariants.{Inside, OnLanelet}
use Rattle.scenario_model.specs.declared.scenario.Scenario.{Scenario}
use Rattle.scenario_model.specs.declared.scenario.Version.{Version}
use Rattle.scenario_xml.specs.Elements.{place, wanted_attribute, id_attribute}
use Rattle.scenario_xml.specs.Faults.{from_markup}
use Rattle.scenario_xml.specs.Goals.{problem}
use Rattle.scenario_xml.specs.Lanelets.{is_known, lanelet}
use Rattle.scenario_xml.specs.Numbers.{number_in}
use Rattle.scenario_xml.specs.Obstacles.{any_obstacle}
use Rattle.scenario_xml.specs.Versions.{version_in, names_obstacle}
use Rattle.scenario_xml.specs.declared.contents.Contents.{Contents}
use Rattle.scenario_xml.specs.declared.fault.Kind.{Kind}
use Rattle.scenario_xml.specs.declared.fault.Kind.TheVariants as kind
use Rattle.scenario_xml.specs.declared.fault.ScenarioFault.{ScenarioFault}
use Rattle.scenario_xml.specs.declared.fault.ScenarioFault.TheVariants.{WrongRoot, DuplicateId}
use Rattle.scenario_xml.specs.declared.fault.ScenarioFault.TheVariants.{UnknownRef, NoProblem}
use Rattle.scenario_xml.specs.declared.fault.ScenarioFault.TheVariants.{TooMany}
use Rattle.scenario_xml.specs.declared.fault.Wanted.TheVariants as wanted
use Rattle.scenario_xml.specs.declared.quantity.Quantity.TheVariants.{Step}
use Rattle.scenario_xml.specs.declared.root.Head.{Head}
use Rattle.scenario_model.specs.declared.limits.TheConstants.{MAX_LANELETS, MAX_OBSTACLES}
use Rattle.scenario_model.specs.declared.limits.TheConstants.{MAX_PROBLEMS}

-- one of these has the id
unfoldable pub has_id : {X : Type 0} → (X → ℕ) → ℕ → List X → Bool
has_id id_of id items = list_any (λ x. id_of x == id) items

-- the id of one more element of a kind, after these: there is room for it, it has an id, and none
-- of these has it
unfoldable pub new_id : {X : Type 0} → Kind → ℕ → (X → ℕ) → Document → ℕ → List X
    → Result ℕ ScenarioFault
new_id what limit id_of document k items =
    if nat_le limit (length items) then Err (TooMany what)
    else (id_attribute document k wanted.Id >>= λ id.
    if has_id id_of id items then Err (DuplicateId id) else Ok id)

unfoldable pub lanelet_step : Document → ℕ → Contents → Result Contents ScenarioFault
lanelet_step document k s =
    new_id kind.Lanelet MAX_LANELETS (λ (l : Lanelet). l.id) document k s.lanelets >>= λ id.
    lanelet document k id s.known_ids >>= λ l.
    Ok (record s { lanelets = s.lanelets ++ l ∷ [] })

unfoldable pub obstacle_step : Document → ℕ → Contents → Result Contents ScenarioFault
obstacle_step document k s =
    new_id kind.Obstacle MAX_OBSTACLES (λ (o : Obstacle). o.id) document k s.obstacles >>= λ id.
    any_obstacle document k id >>= λ o.
    Ok (record s { obstacles = s.obstacles ++ o ∷ [] })

unfoldable pub problem_step : Document → ℕ → Contents → Result Contents ScenarioFault
problem_step document k s =
    new_id kind.Problem MAX_PROBLEMS (λ (p : Problem). p.id) document k s.problems >>= λ id.
    problem document k id >>= λ p.
    Ok (record s { problems = s.problems ++ p ∷ [] })

-- a child of the root, after those before it
unfoldable pub content_step : Document → ℕ → Contents → Result Contents ScenarioFault
content_step document k s =
    if bytes_eq (name_of document k) (codes "lanelet") then lanelet_step document k s
    else if names_obstacle s.version (name_of document k) then obstacle_step document k s
    else if bytes_eq (name_of document k) (codes "planningProblem") then problem_step document k s
    else Ok s

-- the ids of all lanelets; a lanelet without a good id is left out, and refused where its turn
-- comes
abbrev pub id_or_none : Result ℕ ScenarioFault → List ℕ → List ℕ
id_or_none (Ok id) ids = ids ++ id ∷ []
id_or_none (Err fault) ids = ids

unfoldable pub id_step : Document → ℕ → List ℕ → Result (List ℕ) ScenarioFault
id_step document k ids =
    if bytes_eq (name_of document k) (codes "lanelet") then
    Ok (id_or_none (id_attribute document k wanted.Id) ids)
    else Ok ids

unfoldable pub known_ids : Document → Result (List ℕ) ScenarioFault
known_ids document = read_all (id_step document) (children document 0) []

-- what the root holds, in a version
unfoldable pub contents : Document → Version → Result Contents ScenarioFault
contents document version =
    known_ids document >>= λ ids.
    read_all (content_step document) (children document 0)
    (record { version = version; known_ids = ids; lanelets = []; obstacles = []; problems = [] })

-- how long a tick is, by the root
unfoldable pub tick_length : Document → Result ℤ ScenarioFault
tick_length document =
    wanted_attribute document 0 wanted.TimeStepSize >>= number_in (place document 0) Step

abbrev pub head_in : Document → Version → Result Head ScenarioFault
head_in document version =
    tick_length document >>= λ step. Ok (record { version = version; step_micros = step })

-- the root is `commonRoad` of one of the versions, and says how long a tick is
unfoldable pub root : Document → Result Head ScenarioFault
root document =
    if bytes_eq (name_of document 0) (codes "commonRoad") then
    (wanted_attribute document 0 wanted.CommonRoadVersion >>= λ text.
    version_in text >>= head_in document)
    else Err WrongRoot

abbrev pub or_else : {Y : Type 0} → Option Y → Option Y → Option Y
or_else None other = other
or_else (Some y) other = Some y

-- what f finds in the first item in which it finds something
unfoldable pub first_in : {X Y : Type 0} → (X → Option Y) → List X → Option Y
first_in f [] = None
first_in f (x ∷ xs) = or_else (f x) (first_in f xs)

-- the lanelet that a region, a goal, a problem refers to, and that is not known
abbrev pub unknown_in_region : List ℕ → Region → Option ℕ
unknown_in_region known_ids (Inside shape) = None
unknown_in_region known_ids (OnLanelet id) = if is_known known_ids id then None else Some id

abbrev pub unknown_in_goal : List ℕ → Goal → Option ℕ
unknown_in_goal known_ids g = first_in (unknown_in_region known_ids) g.regions

abbrev pub unknown_in_problem : List ℕ → Problem → Option ℕ
unknown_in_problem known_ids p = first_in (unknown_in_goal known_ids) p.goals

-- every goal's region is known, and there is a problem
abbrev pub none_unknown : ℤ → Contents → Option ℕ → Result Scenario ScenarioFault
none_unknown step s (Some id) = Err (UnknownRef id)
none_unknown step s None =
    if length s.problems == 0 then Err NoProblem
    else Ok (record {
      version = s.version;
      step_micros = step;
      lanelets = s.lanelets;
      obstacles = s.obstacles;
      problems = s.problems;
    })

unfoldable pub checked_scenario : ℤ → Contents → Result Scenario ScenarioFault
checked_scenario step s = none_unknown step s (first_in (unknown_in_problem s.known_ids) s.problems)

-- the scenario of a tree
unfoldable pub scenario_in : Document → Result Scenario ScenarioFault
scenario_in document =
    root document >>= λ head. contents document head.version >>= checked_scenario head.step_micros

abbrev pub shown : List ℕ → Result (List Node) MarkupFault → Result Document ScenarioFault
shown bytes (Ok nodes) = Ok (record { source = bytes; nodes = nodes })
shown bytes (Err fault) = Err (from_markup fault)

-- the tree of some bytes
unfoldable pub document_in : List ℕ → Result Document ScenarioFault
document_in bytes = shown bytes (markup bytes)

-- the scenario of some bytes
unfoldable pub scenario : List ℕ → Result Scenario ScenarioFault
scenario bytes = document_in bytes >>= scenario_in
