use Rattle.std.proofs.Common.{take, FitsSigned, w64, to_z-of_z}
use Rattle.std.specs.List.{flat_map}
use Rattle.std.proofs.lemmas.Int.{fold-int_min_bounds}
use Rattle.moving_obstacles.specs.declared.track.Track.{Track}
use Rattle.moving_obstacles.specs.Nearness.{distances}
use Rattle.moving_obstacles.specs.Tracks.{pose_in}
use Rattle.moving_obstacles.specs.declared.limits.TheConstants.{MAX_DISTANCE}
use Rattle.moving_obstacles.proofs.traffic.least_distance_of_all.Goals as goal

pub returns-clause-high : goal.returns-clause-high
returns-clause-high c =
    let width : FitsSigned w64 c.args.width = c.ranges.width in
    let found = flat_map (λ (t : Track). distances c.args.position c.args.unit c.args.width (pose_in t c.args.tick)) (take c.loop-track.track-index c.args.tracks.now) in
    (fold-int_min_bounds MAX_DISTANCE found _ (simp to_z-of_z at c.loop-track.invariant.value)).0
