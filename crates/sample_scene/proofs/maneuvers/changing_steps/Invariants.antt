use Rattle.std.proofs.Common.{◌≡◌, ◌-◌, ◌≤◌, map}
use Rattle.std.specs.List.{range_with_len}
use Rattle.sample_scene.specs.Maneuvers.{changing_step}
use Rattle.sample_scene.proofs.maneuvers.changing_steps.Given as goal

abbrev pub invariant-loop-number : goal.invariant-loop-number
invariant-loop-number l = record {
  steps : l.steps ≡ map (changing_step l.fn.speed l.fn.change) (range_with_len 1 (l.number - 1));
  from_one : 1 ≤ l.number;
}
