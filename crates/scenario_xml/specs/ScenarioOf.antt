-- When a scenario is that of a document, spoken of all children of the root at once (CommonRoad XML
-- 2020a and 2018b). The limits are this project's own.
use Rattle.std.specs.Prelude.{◌≡◌, ℕ, ◌≤◌, Bool, List, length, filter, All, codes, Some, Ok, ⊤}
use Rattle.std.specs.List.{AllZip, flat_map}
use Rattle.std.specs.Str.{bytes_eq}
use Rattle.element_tree.specs.declared.node.Node.{Node}
use Rattle.element_tree.specs.Document.{Document}
use Rattle.element_tree.specs.Documents.{markup}
use Rattle.element_tree.specs.Tags.{value_of}
use Rattle.element_tree.specs.Trees.{name_of, attributes_of, children}
use Rattle.scenario_model.specs.Scenario.{HaveDifferentIds, lanelet_ids, IsKnown}
use Rattle.scenario_model.specs.declared.lanelet.Lanelet.{Lanelet}
use Rattle.scenario_model.specs.declared.obstacle.Obstacle.{Obstacle}
use Rattle.scenario_model.specs.declared.problem.Goal.{Goal}
use Rattle.scenario_model.specs.declared.problem.Problem.{Problem}
use Rattle.scenario_model.specs.declared.problem.Region.{Region}
use Rattle.scenario_model.specs.declared.problem.Region.TheVariants.{Inside, OnLanelet}
use Rattle.scenario_model.specs.declared.scenario.Scenario.{Scenario}
use Rattle.scenario_model.specs.declared.scenario.Version.{Version}
use Rattle.scenario_xml.specs.Elements.{id_attribute}
use Rattle.scenario_xml.specs.Goals.{problem}
use Rattle.scenario_xml.specs.Lanelets.{lanelet}
use Rattle.scenario_xml.specs.Obstacles.{moving, obstacle}
use Rattle.scenario_xml.specs.Scenarios.{tick_length}
use Rattle.scenario_xml.specs.Versions.{version_text, names_obstacle}
use Rattle.scenario_xml.specs.declared.fault.Wanted.TheVariants as wanted
use Rattle.scenario_model.specs.declared.limits.TheConstants.{MAX_LANELETS, MAX_OBSTACLES}
use Rattle.scenario_model.specs.declared.limits.TheConstants.{MAX_PROBLEMS}

-- what element k is, by its name
unfoldable pub is_lanelet : Document → ℕ → Bool
is_lanelet document k = bytes_eq (name_of document k) (codes "lanelet")

abbrev pub is_obstacle : Version → Document → ℕ → Bool
is_obstacle version document k = names_obstacle version (name_of document k)

unfoldable pub is_problem : Document → ℕ → Bool
is_problem document k = bytes_eq (name_of document k) (codes "planningProblem")

-- element k is this lanelet, where these are the ids of all lanelets
pub record IsLaneletAt (document : Document) (ids : List ℕ) (k : ℕ) (l : Lanelet) : Type 0 where
  pub id : id_attribute document k wanted.Id ≡ Ok l.id
  pub content : lanelet document k l.id ids ≡ Ok l

-- element k is this obstacle
pub record IsObstacleAt (document : Document) (k : ℕ) (o : Obstacle) : Type 0 where
  pub id : id_attribute document k wanted.Id ≡ Ok o.id
  pub moving : moving document k ≡ Ok o.moving
  pub content : obstacle document k o.id o.moving ≡ Ok o

-- element k is this problem
pub record IsProblemAt (document : Document) (k : ℕ) (p : Problem) : Type 0 where
  pub id : id_attribute document k wanted.Id ≡ Ok p.id
  pub content : problem document k p.id ≡ Ok p

-- These items are what these elements are, one for one and in their order. There are no more than
-- the limit, and no two have one id.
pub record AreItems {X : Type 0} (IsItemAt : ℕ → X → Type 0) (id_of : X → ℕ) (limit : ℕ)
    (nodes : List ℕ) (items : List X) : Type 0 where
  pub read : AllZip IsItemAt nodes items
  pub few : length items ≤ limit
  pub different : HaveDifferentIds id_of items

-- These lanelets, obstacles and problems are those among some children of the root, in a version,
-- where these are the ids of all lanelets.
pub record AreReadOff (version : Version) (document : Document) (ids nodes : List ℕ)
    (some_lanelets : List Lanelet) (some_obstacles : List Obstacle) (some_problems : List Problem)
    : Type 0 where
  pub lanelets : AreItems (IsLaneletAt document ids) (λ (l : Lanelet). l.id) MAX_LANELETS
      (filter (is_lanelet document) nodes) some_lanelets
  pub obstacles : AreItems (IsObstacleAt document) (λ (o : Obstacle). o.id) MAX_OBSTACLES
      (filter (is_obstacle version document) nodes) some_obstacles
  pub problems : AreItems (IsProblemAt document) (λ (p : Problem). p.id) MAX_PROBLEMS
      (filter (is_problem document) nodes) some_problems

-- all goals of some problems, and all their regions, in their order
abbrev pub goals_of : List Problem → List Goal
goals_of problems = flat_map (λ (p : Problem). p.goals) problems

abbrev pub regions_of : List Problem → List Region
regions_of problems = flat_map (λ (g : Goal). g.regions) (goals_of problems)

-- a region that is a lanelet is one of these
abbrev pub IsRegionKnown : List ℕ → Region → Type 0
IsRegionKnown ids (Inside shape) = ⊤
IsRegionKnown ids (OnLanelet id) = IsKnown ids id

-- The scenario of a document. Its root is `commonRoad` of the version, and says how long a tick is.
-- Each child of the root with a name that the version reads is one lanelet, obstacle or problem of
-- it, in their order, and it has no others. There is a problem, and each region that is a lanelet
-- is one of the document's.
pub record IsScenarioOf (document : Document) (s : Scenario) : Type 0 where
  pub root : name_of document 0 ≡ codes "commonRoad"
  pub version : value_of (codes "commonRoadVersion") (attributes_of document 0)
      ≡ Some (version_text s.version)
  pub step : tick_length document ≡ Ok s.step_micros
  pub children : AreReadOff s.version document (lanelet_ids s) (children document 0)
      s.lanelets s.obstacles s.problems
  pub some : 1 ≤ length s.problems
  pub regions_known : All (IsRegionKnown (lanelet_ids s)) (regions_of s.problems)

-- The scenario of some bytes: they are a document of the markup, and it is that document's.
pub record IsScenarioIn (bytes : List ℕ) (s : Scenario) : Type 0 where
  pub nodes : List Node
  pub document : markup bytes ≡ Ok nodes
  pub scenario : IsScenarioOf (record { source = bytes; nodes = nodes }) s

-- no other scenario is that of the bytes
abbrev pub IsOnlyScenarioIn : List ℕ → Scenario → Type 0
IsOnlyScenarioIn bytes s = (other : Scenario) → IsScenarioIn bytes other → other ≡ s

-- the bytes are no scenario
abbrev pub IsNoScenario : List ℕ → Type 0
IsNoScenario bytes = (s : Scenario) → IsScenarioIn bytes s → ⊥
