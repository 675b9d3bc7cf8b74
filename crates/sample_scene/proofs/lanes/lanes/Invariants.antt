use Rattle.std.proofs.Common.{◌≡◌, map}
use Rattle.std.specs.List.{range_with_len}
use Rattle.sample_scene.specs.Motorway.{lane}
use Rattle.sample_scene.proofs.lanes.lanes.Given as goal

abbrev pub invariant-loop-place : goal.invariant-loop-place
invariant-loop-place l = l.lanes ≡ map lane (range_with_len 0 l.place)
