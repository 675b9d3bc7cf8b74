use Rattle.std.proofs.Common.{◌≡◌, length}
use Rattle.moving_obstacles.specs.Present.{AreMoments}
use Rattle.moving_obstacles.proofs.moment.moments_of.Given as goal

abbrev pub invariant-loop-tick : goal.invariant-loop-tick
invariant-loop-tick l = (length l.moments ≡ l.tick) × AreMoments l.tracks l.moments
