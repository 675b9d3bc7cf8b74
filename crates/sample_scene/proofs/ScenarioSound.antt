-- The sample scenario is well formed.
use Rattle.std.proofs.Common.{ℕ, ◌*◌, ◌<◌, ◌≤◌, ◌^◌, List, [], ◌∷◌, map, arith}
use Rattle.std.specs.Prelude.{ℤ, pos, neg_ℤ, ◌+ℤ◌, ◌-ℤ◌, unsigned_abs, ◌≢◌}
use Rattle.std.specs.List.{range_with_len}
use Rattle.std.proofs.lemmas.Int.{ints}
use Rattle.std.proofs.lemmas.Nat.{mul-le}
use Rattle.std.proofs.lemmas.List.Elements.{All-nil, All-cons}
use Rattle.scenario_model.specs.declared.lanelet.Lanelet.{Lanelet}
use Rattle.scenario_model.specs.declared.obstacle.Obstacle.{Obstacle}
use Rattle.scenario_model.specs.Scenario.{IsRead, IsBound, IsShape, IsPose, IsLanelet, IsObstacle, IsGoal, IsKnown, IsRegion, IsProblem, IsScenario}
use Rattle.sample_scene.specs.declared.cars.Course.{Course}
use Rattle.sample_scene.specs.Motorway.{at, bound, lane, middle, pose, car_shape, drawn_course, drawn_car, goal, problem, scenario}
use Rattle.sample_scene.proofs.Made.{each_made, each_two_made}
use Rattle.scenario_model.specs.declared.limits.TheConstants.{MAX_COORDINATE}

bound_is_read : (y : ℤ) → unsigned_abs y ≤ MAX_COORDINATE → IsBound (bound y)
bound_is_read y h =
    let first = at (neg_ℤ (pos 500000)) y in
    let last = at (pos 5000000) y in
    (omega arith, omega arith, All-cons IsRead first (last ∷ []) (record { x = omega arith; y = h }) (All-cons IsRead last [] (record { x = omega arith; y = h }) (All-nil IsRead)))

lane_is_sound : (ids : List ℕ) (place : ℕ) → place < 3 → IsLanelet ids (lane place)
lane_is_sound ids place h = record {
  id = omega arith;
  left = bound_is_read (middle place +ℤ pos 20000) (omega (arith, ints));
  right = bound_is_read (middle place -ℤ pos 20000) (omega (arith, ints));
  predecessors = All-nil (IsKnown ids);
  successors = All-nil (IsKnown ids);
  adjacent_left = tt;
  adjacent_right = tt;
}

record IsCourse (c : Course) : Type 0 where
  lane : c.lane < 3
  start : c.start < 410
  speed : c.speed < 12

course_is_sound : (number place : ℕ) → IsCourse (drawn_course number place)
course_is_sound number place = record { lane = omega arith; start = omega arith; speed = omega arith }

pose_is_sound : (c : Course) (tick : ℕ) → IsCourse c → tick < 31 → IsPose (pose c tick)
pose_is_sound c tick sound h =
    let passed : c.speed * tick ≤ 12 * 31 = mul-le c.speed tick 12 31 (omega (arith, sound.speed)) (omega arith) in
    record {
      tick = omega arith;
      position = record { x = omega (arith, sound.start); y = omega (arith, sound.lane) };
      heading = omega arith;
      speed = omega (arith, sound.speed);
    }

car_is_sound : (number place : ℕ) → place < 40 → IsObstacle (drawn_car number place)
car_is_sound number place h = record {
  id = omega arith;
  shaped = omega arith;
  shapes = All-cons IsShape car_shape [] (record { least = omega (arith, ints); most = omega (arith, ints) }, record { least = omega (arith, ints); most = omega (arith, ints) }, omega arith, record { x = omega arith; y = omega arith }) (All-nil IsShape);
  corners = omega arith;
  state_count = omega arith;
  states = each_made IsPose (pose (drawn_course number place)) 31 (λ tick within. pose_is_sound (drawn_course number place) tick (course_is_sound number place) within);
}

goal_is_sound : (ids : List ℕ) → IsGoal ids goal
goal_is_sound ids = record { first_tick = omega arith; last_tick = omega arith; few = omega arith; regions = All-nil (IsRegion ids); heading = tt; speed = tt }

problem_is_sound : (ids : List ℕ) → IsProblem ids problem
problem_is_sound ids = record {
  id = omega arith;
  start = record { tick = omega arith; position = record { x = omega arith; y = omega arith }; heading = omega arith; speed = omega arith };
  some = omega arith;
  few = omega arith;
  goals = All-cons (IsGoal ids) goal [] (goal_is_sound ids) (All-nil (IsGoal ids));
}

pub scenario_is_sound : (number : ℕ) → IsScenario (scenario number)
unfolding scenario
scenario_is_sound number =
    let ids = map (λ (l : Lanelet). l.id) (map lane (range_with_len 0 3)) in
    record {
      step = (omega (arith, ints), omega (arith, ints));
      lanelet_count = omega arith;
      lanelets = each_made (IsLanelet ids) lane 3 (lane_is_sound ids);
      different_lanelets = each_two_made (λ (a b : Lanelet). a.id ≢ b.id) lane 3 (λ i j less within. omega arith);
      obstacle_count = omega arith;
      obstacles = each_made IsObstacle (drawn_car number) 40 (car_is_sound number);
      different_obstacles = each_two_made (λ (a b : Obstacle). a.id ≢ b.id) (drawn_car number) 40 (λ i j less within. omega arith);
      problem_count = (omega arith, omega arith);
      problems = All-cons (IsProblem ids) problem [] (problem_is_sound ids) (All-nil (IsProblem ids));
      different_problems = λ i j d less within. absurd (omega arith);
    }
