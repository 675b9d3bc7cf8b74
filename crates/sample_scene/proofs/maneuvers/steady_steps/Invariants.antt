use Rattle.std.proofs.Common.{◌≡◌, ◌-◌, ◌≤◌, map}
use Rattle.std.specs.List.{range_with_len}
use Rattle.sample_scene.specs.Maneuvers.{steady_step}
use Rattle.sample_scene.proofs.maneuvers.steady_steps.Given as goal

abbrev pub invariant-loop-number : goal.invariant-loop-number
invariant-loop-number l = record {
  steps : l.steps ≡ map (steady_step l.fn.speed l.fn.side) (range_with_len 1 (l.number - 1));
  from_one : 1 ≤ l.number;
}
