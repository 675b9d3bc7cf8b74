-- The sample scenario: forty cars on a motorway with three lanes. This project's own.
-- Lengths are in 0.1 mm, so 10000 is a metre; speeds in mm/s; a tick is a fifth of a second.
use Rattle.std.specs.Prelude.{ℕ, ◌+◌, ◌*◌, ◌%◌, ℤ, pos, neg_ℤ, ◌+ℤ◌, ◌-ℤ◌, true, List, [], ◌∷◌, map}
use Rattle.std.specs.Prelude.{None}
use Rattle.std.specs.List.{range_with_len}
use Rattle.fixed_geometry.specs.declared.point.Point.{Point}
use Rattle.scenario_model.specs.declared.lanelet.Lanelet.{Lanelet}
use Rattle.scenario_model.specs.declared.obstacle.Obstacle.{Obstacle}
use Rattle.scenario_model.specs.declared.obstacle.Pose.{Pose}
use Rattle.scenario_model.specs.declared.obstacle.Shape.{Shape}
use Rattle.scenario_model.specs.declared.obstacle.Shape.TheVariants as shape
use Rattle.scenario_model.specs.declared.problem.Goal.{Goal}
use Rattle.scenario_model.specs.declared.problem.Problem.{Problem}
use Rattle.scenario_model.specs.declared.scenario.Scenario.{Scenario}
use Rattle.scenario_model.specs.declared.scenario.Version.TheVariants.{V2020a}
use Rattle.sample_scene.specs.declared.cars.Course.{Course}
use Rattle.sample_scene.specs.Draws.{draw}

abbrev pub at : ℤ → ℤ → Point
at x y = record { x = x; y = y }

-- the middle of the lane at a place, counted from 0: lanes are 4 m wide
abbrev pub middle : ℕ → ℤ
middle place = pos (40000 * place)

-- from x = -50 m to x = 500 m
abbrev pub bound : ℤ → List Point
bound y = at (neg_ℤ (pos 500000)) y ∷ at (pos 5000000) y ∷ []

-- the lane at a place, with the ids from 1 on
abbrev pub lane : ℕ → Lanelet
lane place = record {
  id = place + 1;
  left = bound (middle place +ℤ pos 20000);
  right = bound (middle place -ℤ pos 20000);
  predecessors = [];
  successors = [];
  adjacent_left = None;
  adjacent_right = None;
}

-- what three draws say: the lane, from 0 to 2; the start, from 10 to 409 m; the speed, from 4 to 11
-- m/s
abbrev pub course : ℕ → ℕ → ℕ → Course
course a b d = record { lane = a % 3; start = 10 + b % 400; speed = 4 + d % 8 }

-- where a car is at a tick, which passes a fifth of its speed a tick
abbrev pub pose : Course → ℕ → Pose
pose c tick = record {
  tick = tick;
  position = at (pos (10000 * c.start + 2000 * (c.speed * tick))) (middle c.lane);
  heading = pos 0;
  speed = pos (1000 * c.speed);
}

-- 4.5 m by 1.8 m
abbrev pub car_shape : Shape
car_shape = shape.Rectangle (pos 45000) (pos 18000) (pos 0) (at (pos 0) (pos 0))

-- a car with this course, from tick 0 to tick 30
abbrev pub car : ℕ → Course → Obstacle
car id c = record {
  id = id;
  moving = true;
  shapes = car_shape ∷ [];
  states = map (pose c) (range_with_len 0 31);
}

-- the course of the car at a place, by draws of its own
abbrev pub drawn_course : ℕ → ℕ → Course
drawn_course number place =
    course (draw number (3 * place)) (draw number (3 * place + 1)) (draw number (3 * place + 2))

abbrev pub drawn_car : ℕ → ℕ → Obstacle
drawn_car number place = car (100 + place) (drawn_course number place)

-- at any place, at tick 30
abbrev pub goal : Goal
goal = record { first_tick = 30; last_tick = 30; regions = []; heading = None; speed = None }

-- from the middle lane, with 10 m/s
abbrev pub problem : Problem
problem =
    record {
      id = 900;
      start = record {
        tick = 0;
        position = at (pos 0) (pos 40000);
        heading = pos 0;
        speed = pos 10000;
      };
      goals = goal ∷ [];
    }

-- three lanes, forty cars, one problem
unfoldable pub scenario : ℕ → Scenario
scenario number = record {
  version = V2020a;
  step_micros = pos 200000;
  lanelets = map lane (range_with_len 0 3);
  obstacles = map (drawn_car number) (range_with_len 0 40);
  problems = problem ∷ [];
}
