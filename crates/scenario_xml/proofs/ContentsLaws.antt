-- One lanelet, obstacle or problem more, and the whole scenario, are well formed.
use Rattle.std.proofs.Common.{◌≡◌, ℕ, ◌≤◌, false, eqb, List, [], ◌∷◌, ◌++◌, length, ℤ, pos, ◌≤ℤ◌, None, Ok, ◌∙◌, subst, arith}
use Rattle.std.specs.Prelude.{All}
use Rattle.std.proofs.lemmas.List.Elements.{All-push}
use Rattle.element_tree.specs.Document.{Document}
use Rattle.element_tree.specs.Trees.{children}
use Rattle.scenario_model.specs.Scenario.{IsLanelet, IsObstacle, IsProblem, IsScenario}
use Rattle.scenario_model.specs.declared.lanelet.Lanelet.{Lanelet}
use Rattle.scenario_model.specs.declared.obstacle.Obstacle.{Obstacle}
use Rattle.scenario_model.specs.declared.problem.Problem.{Problem}
use Rattle.scenario_model.specs.declared.scenario.Scenario.{Scenario}
use Rattle.scenario_model.specs.declared.scenario.Version.{Version}
use Rattle.scenario_xml.specs.ScenarioFaults.{ids_in, IsRead}
use Rattle.scenario_xml.specs.Scenarios.{contents, first_in, unknown_in_problem}
use Rattle.scenario_xml.specs.Sound.{IsSoundProblem, AreContents, AreWhole}
use Rattle.scenario_xml.specs.declared.contents.Contents.{Contents}
use Rattle.scenario_xml.proofs.KnownAll.{ids_are}
use Rattle.scenario_xml.proofs.ScenarioLaw.{contents_are}
use Rattle.scenario_xml.proofs.SoundLaws.{none_found}
use Rattle.scenario_model.specs.declared.limits.TheConstants.{MAX_STEP_MICROS}

pub lanelet_more : (c : Contents) (l : Lanelet) → AreContents c → IsLanelet c.known_ids l → AreContents (record c { lanelets = c.lanelets ++ l ∷ [] })
lanelet_more c l h sound = record { lanelets = All-push (IsLanelet c.known_ids) c.lanelets l h.lanelets sound; obstacles = h.obstacles; problems = h.problems }

pub obstacle_more : (c : Contents) (o : Obstacle) → AreContents c → IsObstacle o → AreContents (record c { obstacles = c.obstacles ++ o ∷ [] })
obstacle_more c o h sound = record { lanelets = h.lanelets; obstacles = All-push IsObstacle c.obstacles o h.obstacles sound; problems = h.problems }

pub problem_more : (c : Contents) (p : Problem) → AreContents c → IsSoundProblem p → AreContents (record c { problems = c.problems ++ p ∷ [] })
problem_more c p h sound = record { lanelets = h.lanelets; obstacles = h.obstacles; problems = All-push IsSoundProblem c.problems p h.problems sound }

-- what was read of a whole root
pub whole_contents : (document : Document) (version : Version) (c : Contents) → contents document version ≡ Ok c → AreContents c → AreWhole c
whole_contents document version c e h =
    let read : IsRead document version (children document 0) c = contents_are document version c e in
    record {
      contents = h;
      known_ids = read.known_ids ∙ ids_are document (ids_in document) c.lanelets read.items.lanelets.read;
      lanelet_count = read.items.lanelets.few;
      different_lanelets = read.items.lanelets.different;
      obstacle_count = read.items.obstacles.few;
      different_obstacles = read.items.obstacles.different;
      problem_count = read.items.problems.few;
      different_problems = read.items.problems.different;
    }

there_is_one : {X : Type 0} (xs : List X) → eqb (length xs) 0 ≡ false → 1 ≤ length xs
there_is_one [] e = absurd cc
there_is_one (x ∷ xs) e = omega arith

abbrev scenario_of : ℤ → Contents → Scenario
scenario_of step c = record { version = c.version; step_micros = step; lanelets = c.lanelets; obstacles = c.obstacles; problems = c.problems }

abbrev IsStep : ℤ → Type 0
IsStep step = (pos 1 ≤ℤ step) × (step ≤ℤ MAX_STEP_MICROS)

-- where no region is unknown, and there is a problem, the whole is well formed
pub all_known : (step : ℤ) (c : Contents) → IsStep step → AreWhole c → first_in (unknown_in_problem c.known_ids) c.problems ≡ None → eqb (length c.problems) 0 ≡ false → IsScenario (scenario_of step c)
all_known step c range h none some =
    let nothing_unknown = none_found (unknown_in_problem c.known_ids) c.problems none in
    let problems : All (IsProblem c.known_ids) c.problems = λ k d lt. (h.contents.problems k d lt).among c.known_ids (nothing_unknown k d lt) in
    record {
      step = range;
      lanelet_count = h.lanelet_count;
      lanelets = subst (λ (ids : List ℕ). All (IsLanelet ids) c.lanelets) h.known_ids h.contents.lanelets;
      different_lanelets = h.different_lanelets;
      obstacle_count = h.obstacle_count;
      obstacles = h.contents.obstacles;
      different_obstacles = h.different_obstacles;
      problem_count = (there_is_one c.problems some, h.problem_count);
      problems = subst (λ (ids : List ℕ). All (IsProblem ids) c.problems) h.known_ids problems;
      different_problems = h.different_problems;
    }
