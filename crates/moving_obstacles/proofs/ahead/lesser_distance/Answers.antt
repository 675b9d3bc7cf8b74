use Rattle.std.proofs.Common.{◌≡◌, refl, FitsSigned, w64, to_z-of_z, false}
use Rattle.moving_obstacles.specs.Nearness.{is_ahead}
use Rattle.moving_obstacles.proofs.Aside.{least_kept}
use Rattle.moving_obstacles.proofs.ahead.lesser_distance.Goals as goal

pub returns-then-is_apart-clause-value : goal.returns-then-is_apart-clause-value
returns-then-is_apart-clause-value c =
    let least : FitsSigned w64 c.args.least = c.ranges.least in
    let width : FitsSigned w64 c.args.width = c.ranges.width in
    let apart : is_ahead c.args.position c.args.unit c.args.width c.args.pose ≡ false = simp to_z-of_z at (c.if-is_apart.ensures refl) in
    simp to_z-of_z (least_kept c.args.position c.args.unit c.args.width c.args.least c.args.pose apart)
