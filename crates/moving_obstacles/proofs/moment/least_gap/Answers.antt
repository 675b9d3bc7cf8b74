use Rattle.std.proofs.Common.{take}
use Rattle.std.specs.List.{flat_map}
use Rattle.std.proofs.lemmas.Int.{fold-int_min_bounds}
use Rattle.moving_obstacles.specs.declared.presence.Presence.{Presence}
use Rattle.moving_obstacles.specs.Nearness.{gaps}
use Rattle.moving_obstacles.specs.Tracks.{occupancy_in}
use Rattle.moving_obstacles.specs.declared.limits.TheConstants.{MAX_DISTANCE}
use Rattle.moving_obstacles.proofs.moment.least_gap.Goals as goal

pub returns-clause-high : goal.returns-clause-high
returns-clause-high c =
    let found = flat_map (λ (p : Presence). gaps c.args.ego (occupancy_in c.args.tracks.now p.place c.args.tick)) (take c.loop-presence.presence-index c.args.present.now) in
    (fold-int_min_bounds MAX_DISTANCE found _ c.loop-presence.invariant.value).0
