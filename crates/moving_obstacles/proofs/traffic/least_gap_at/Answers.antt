use Rattle.std.proofs.Common.{rules, ◌∙◌, ap, FitsSigned, w64, to_z-of_z}
use Rattle.moving_obstacles.specs.Nearness.{least}
use Rattle.moving_obstacles.specs.Present.{ArePresent}
use Rattle.moving_obstacles.proofs.Listing.{gaps_listed}
use Rattle.moving_obstacles.proofs.traffic.least_gap_at.Goals as goal

pub returns-in-Some-clause-value : goal.returns-in-Some-clause-value
returns-in-Some-clause-value c =
    let fits : FitsSigned w64 c.least_gap.result = search rules in
    let listed : ArePresent c.args.tracks.now c.args.tick c.in-Some.present.now = search rules in
    simp to_z-of_z (c.least_gap.ensures.value ∙ ap least (gaps_listed c.args.tracks.now c.args.tick c.in-Some.present.now c.args.ego listed))
