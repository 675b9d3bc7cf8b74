use Rattle.std.proofs.Common.{◌≡◌, ◌*◌, map}
use Rattle.std.specs.List.{range_with_len}
use Rattle.sample_scene.specs.Draws.{state_after}
use Rattle.sample_scene.specs.Motorway.{drawn_car}
use Rattle.sample_scene.proofs.cars.cars.Given as goal

abbrev pub invariant-loop-place : goal.invariant-loop-place
invariant-loop-place l = record {
  cars : l.cars ≡ map (drawn_car l.fn.number) (range_with_len 0 l.place);
  draws : l.draws.state ≡ state_after l.fn.number (3 * l.place);
}
