use Rattle.std.proofs.Common.{rules, ◌∙◌, arith}
use Rattle.std.proofs.lemmas.List.Sums.{count_by-le-length}
use Rattle.moving_obstacles.specs.declared.track.Track.{Track}
use Rattle.moving_obstacles.specs.Nearness.{is_met}
use Rattle.moving_obstacles.specs.Present.{ArePresent}
use Rattle.moving_obstacles.specs.Tracks.{shapes_in}
use Rattle.moving_obstacles.proofs.Listing.{met_listed}
use Rattle.moving_obstacles.proofs.traffic.count_met_at.Goals as goal

pub returns-in-Some-clause-value : goal.returns-in-Some-clause-value
returns-in-Some-clause-value c =
    let listed : ArePresent c.args.tracks.now c.args.tick c.in-Some.present.now = search rules in
    c.count_met.ensures.value ∙ met_listed c.args.tracks.now c.args.tick c.in-Some.present.now c.args.ego.now listed

pub returns-in-Some-clause-most : goal.returns-in-Some-clause-most
returns-in-Some-clause-most c =
    let listed : ArePresent c.args.tracks.now c.args.tick c.in-Some.present.now = search rules in
    let value = c.count_met.ensures.value ∙ met_listed c.args.tracks.now c.args.tick c.in-Some.present.now c.args.ego.now listed in
    omega (arith, value, count_by-le-length (λ (t : Track). is_met c.args.ego.now (shapes_in t c.args.tick)) c.args.tracks.now)
