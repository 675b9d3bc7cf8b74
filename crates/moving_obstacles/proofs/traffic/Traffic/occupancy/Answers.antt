use Rattle.std.proofs.Common.{◌∙◌, ap, ◌<◌, length, arith}
use Rattle.moving_obstacles.proofs.Same.{occupancy_same}
use Rattle.moving_obstacles.proofs.traffic.Traffic.occupancy.Goals as goal

pub returns-clause-all : goal.returns-clause-all
returns-clause-all c = λ obstacles e.
    let seen = c.as_slice-tracks.ensures ∙ c.self.view_is in
    let within : c.args.index < length c.as_slice-tracks.result.now = omega (arith, c.requires, ap length seen) in
    c.shapes_at.ensures ∙ occupancy_same obstacles c.as_slice-tracks.result.now c.args.index c.args.tick c.index-tracks-index.result (seen ∙ e) within c.index-tracks-index.is
