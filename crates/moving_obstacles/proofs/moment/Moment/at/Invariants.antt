use Rattle.moving_obstacles.proofs.Listing.{AreListed}
use Rattle.moving_obstacles.proofs.moment.Moment.at.Given as goal

abbrev pub invariant-loop-place : goal.invariant-loop-place
invariant-loop-place l = AreListed l.tracks l.tick l.place l.present
