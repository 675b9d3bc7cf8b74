use Rattle.std.proofs.Common.{take, FitsSigned, w64, to_z-of_z}
use Rattle.std.specs.Prelude.{Some}
use Rattle.std.specs.List.{flat_map}
use Rattle.std.proofs.lemmas.Int.{fold-int_min_bounds}
use Rattle.moving_obstacles.specs.declared.presence.Presence.{Presence}
use Rattle.moving_obstacles.specs.Nearness.{distances}
use Rattle.moving_obstacles.specs.declared.limits.TheConstants.{MAX_DISTANCE}
use Rattle.moving_obstacles.proofs.moment.least_distance.Goals as goal

pub returns-clause-high : goal.returns-clause-high
returns-clause-high c =
    let width : FitsSigned w64 c.args.width = c.ranges.width in
    let found = flat_map (λ (p : Presence). distances c.args.position c.args.unit c.args.width (Some p.pose)) (take c.loop-presence.presence-index c.args.present.now) in
    (fold-int_min_bounds MAX_DISTANCE found _ (simp to_z-of_z at c.loop-presence.invariant.value)).0
