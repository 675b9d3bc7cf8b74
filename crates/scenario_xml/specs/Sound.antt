-- What was read is well formed; goals and problems but for their references: they are well formed
-- among those lanelets of which none that they refer to is missing.
use Rattle.std.specs.Prelude.{◌≡◌, ℕ, ◌≤◌, List, length, map, All, None}
use Rattle.scenario_model.specs.Scenario.{HaveDifferentIds, IsLanelet, IsObstacle, IsRegion, IsGoal}
use Rattle.scenario_model.specs.Scenario.{IsProblem}
use Rattle.scenario_model.specs.declared.lanelet.Lanelet.{Lanelet}
use Rattle.scenario_model.specs.declared.obstacle.Obstacle.{Obstacle}
use Rattle.scenario_model.specs.declared.problem.Goal.{Goal}
use Rattle.scenario_model.specs.declared.problem.Problem.{Problem}
use Rattle.scenario_model.specs.declared.problem.Region.{Region}
use Rattle.scenario_xml.specs.Scenarios.{unknown_in_region, unknown_in_goal, unknown_in_problem}
use Rattle.scenario_xml.specs.declared.contents.Contents.{Contents}
use Rattle.scenario_xml.specs.declared.goal.GoalsSoFar.{GoalsSoFar}
use Rattle.scenario_xml.specs.declared.region.RegionsSoFar.{RegionsSoFar}
use Rattle.scenario_model.specs.declared.limits.TheConstants.{MAX_LANELETS, MAX_OBSTACLES}
use Rattle.scenario_model.specs.declared.limits.TheConstants.{MAX_PROBLEMS, MAX_GOALS, MAX_REGIONS}

pub record IsSoundRegion (region : Region) : Type 0 where
  pub among : (ids : List ℕ) → unknown_in_region ids region ≡ None → IsRegion ids region

pub record IsSoundGoal (goal : Goal) : Type 0 where
  pub among : (ids : List ℕ) → unknown_in_goal ids goal ≡ None → IsGoal ids goal

pub record IsSoundProblem (problem : Problem) : Type 0 where
  pub among : (ids : List ℕ) → unknown_in_problem ids problem ≡ None → IsProblem ids problem

-- the regions, and the goals, read so far
pub record AreRegions (s : RegionsSoFar) : Type 0 where
  pub few : length s.regions ≤ MAX_REGIONS
  pub regions : All IsSoundRegion s.regions

pub record AreGoals (s : GoalsSoFar) : Type 0 where
  pub few : length s.goals ≤ MAX_GOALS
  pub goals : All IsSoundGoal s.goals

-- what was read of the root so far
pub record AreContents (c : Contents) : Type 0 where
  pub lanelets : All (IsLanelet c.known_ids) c.lanelets
  pub obstacles : All IsObstacle c.obstacles
  pub problems : All IsSoundProblem c.problems

-- what was read of a whole root: no more of each kind than may be, no two of a kind with one id,
-- and the ids that are known are those of its lanelets
pub record AreWhole (c : Contents) : Type 0 where
  pub contents : AreContents c
  pub known_ids : c.known_ids ≡ map (λ (l : Lanelet). l.id) c.lanelets
  pub lanelet_count : length c.lanelets ≤ MAX_LANELETS
  pub different_lanelets : HaveDifferentIds (λ (l : Lanelet). l.id) c.lanelets
  pub obstacle_count : length c.obstacles ≤ MAX_OBSTACLES
  pub different_obstacles : HaveDifferentIds (λ (o : Obstacle). o.id) c.obstacles
  pub problem_count : length c.problems ≤ MAX_PROBLEMS
  pub different_problems : HaveDifferentIds (λ (p : Problem). p.id) c.problems
