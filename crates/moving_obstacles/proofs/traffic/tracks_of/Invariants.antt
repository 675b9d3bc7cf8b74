use Rattle.std.proofs.Common.{◌≡◌, take}
use Rattle.std.specs.Prelude.{map}
use Rattle.moving_obstacles.specs.Tracks.{track_of}
use Rattle.moving_obstacles.proofs.traffic.tracks_of.Given as goal

abbrev pub invariant-loop-obstacle : goal.invariant-loop-obstacle
invariant-loop-obstacle l = l.tracks ≡ map track_of (take l.obstacle-index l.obstacles)
