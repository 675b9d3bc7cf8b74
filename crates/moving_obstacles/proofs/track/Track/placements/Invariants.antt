use Rattle.std.proofs.Common.{◌≡◌, take}
use Rattle.std.specs.Prelude.{map}
use Rattle.moving_obstacles.specs.Tracks.{placement_of}
use Rattle.moving_obstacles.proofs.track.Track.placements.Given as goal

abbrev pub invariant-loop-state : goal.invariant-loop-state
invariant-loop-state l = l.placements ≡ map (placement_of l.shapes) (take l.state-index l.states)
