use Rattle.std.proofs.Common.{take}
use Rattle.std.specs.List.{flat_map}
use Rattle.std.proofs.lemmas.Int.{fold-int_min_bounds}
use Rattle.moving_obstacles.specs.declared.track.Track.{Track}
use Rattle.moving_obstacles.specs.Nearness.{gaps}
use Rattle.moving_obstacles.specs.Tracks.{shapes_in}
use Rattle.moving_obstacles.specs.declared.limits.TheConstants.{MAX_DISTANCE}
use Rattle.moving_obstacles.proofs.traffic.least_gap_of_all.Goals as goal

pub returns-clause-high : goal.returns-clause-high
returns-clause-high c =
    let found = flat_map (λ (t : Track). gaps c.args.ego (shapes_in t c.args.tick)) (take c.loop-track.track-index c.args.tracks.now) in
    (fold-int_min_bounds MAX_DISTANCE found _ c.loop-track.invariant.value).0
