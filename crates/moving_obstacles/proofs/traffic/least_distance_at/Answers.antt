use Rattle.std.proofs.Common.{rules, ◌∙◌, ap, FitsSigned, w64, to_z-of_z}
use Rattle.moving_obstacles.specs.Nearness.{least}
use Rattle.moving_obstacles.specs.Present.{ArePresent}
use Rattle.moving_obstacles.proofs.Listing.{distances_listed}
use Rattle.moving_obstacles.proofs.traffic.least_distance_at.Goals as goal

pub returns-in-Some-clause-value : goal.returns-in-Some-clause-value
returns-in-Some-clause-value c =
    let fits : FitsSigned w64 c.least_distance.result = search rules in
    let width : FitsSigned w64 c.args.width = c.ranges.width in
    let listed : ArePresent c.args.tracks.now c.args.tick c.in-Some.present.now = search rules in
    let found = simp to_z-of_z at c.least_distance.ensures.value in
    simp to_z-of_z (found ∙ ap least (distances_listed c.args.tracks.now c.args.tick c.in-Some.present.now c.args.position c.args.unit c.args.width listed))
