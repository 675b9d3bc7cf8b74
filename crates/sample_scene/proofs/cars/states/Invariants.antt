use Rattle.std.proofs.Common.{◌≡◌, map}
use Rattle.std.specs.List.{range_with_len}
use Rattle.sample_scene.specs.Motorway.{pose}
use Rattle.sample_scene.proofs.cars.states.Given as goal

abbrev pub invariant-loop-tick : goal.invariant-loop-tick
invariant-loop-tick l = l.states ≡ map (pose l.fn.course) (range_with_len 0 l.tick)
