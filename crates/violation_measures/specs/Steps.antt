-- Steps of a trajectory. The ranges are this project's own.
use Rattle.std.specs.Prelude.{◌≤◌, pos, unsigned_abs, None}
use Rattle.violation_measures.specs.declared.step.TheConstants.{MAX_TICK, MAX_COORDINATE}
use Rattle.violation_measures.specs.declared.step.TheConstants.{MAX_HEADING, MAX_SPEED, MAX_TURN}
use Rattle.violation_measures.specs.declared.step.Step.{Step}

pub record IsStep (step : Step) : Type 0 where
  pub tick : step.tick ≤ MAX_TICK
  pub x : unsigned_abs step.x ≤ unsigned_abs MAX_COORDINATE
  pub y : unsigned_abs step.y ≤ unsigned_abs MAX_COORDINATE
  pub heading : unsigned_abs step.heading ≤ unsigned_abs MAX_HEADING
  pub speed : unsigned_abs step.speed ≤ unsigned_abs MAX_SPEED
  pub accel : unsigned_abs step.accel ≤ unsigned_abs MAX_SPEED
  pub turn : unsigned_abs step.turn ≤ unsigned_abs MAX_TURN

-- the step with its drive at an end: it accelerates and turns no more, and no maneuver is driven
abbrev pub finish : Step → Step
finish step = record step { accel = pos 0; turn = pos 0; maneuver = None }
