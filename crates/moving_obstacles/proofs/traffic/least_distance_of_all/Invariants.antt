use Rattle.std.proofs.Common.{◌≡◌, take, ◌≤ℤ◌, pos}
use Rattle.std.specs.List.{fold, flat_map}
use Rattle.std.specs.Int.{int_min}
use Rattle.moving_obstacles.specs.Nearness.{distances}
use Rattle.moving_obstacles.specs.Tracks.{pose_in}
use Rattle.moving_obstacles.specs.declared.limits.TheConstants.{MAX_DISTANCE}
use Rattle.moving_obstacles.proofs.traffic.least_distance_of_all.Given as goal

abbrev pub invariant-loop-track : goal.invariant-loop-track
invariant-loop-track l = record {
  value : l.nearest ≡ fold int_min MAX_DISTANCE (flat_map (λ t. distances l.position l.unit l.width (pose_in t l.tick)) (take l.track-index l.tracks));
  low : pos 0 ≤ℤ l.nearest;
}
