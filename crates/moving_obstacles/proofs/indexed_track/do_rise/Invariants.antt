use Rattle.std.proofs.Common.{◌≡◌, ◌+◌, take}
use Rattle.moving_obstacles.specs.Ticks.{RiseFrom}
use Rattle.moving_obstacles.proofs.indexed_track.do_rise.Given as goal

abbrev pub invariant-loop-placement : goal.invariant-loop-placement
invariant-loop-placement l = record {
  next : l.next ≡ l.first + l.placement-index;
  rise : RiseFrom l.first (take l.placement-index l.placements);
}
