use Rattle.std.proofs.Common.{◌∙◌}
use Rattle.moving_obstacles.proofs.Same.{meeting_same}
use Rattle.moving_obstacles.proofs.traffic.Traffic.meeting.Goals as goal

pub returns-clause-all : goal.returns-clause-all
returns-clause-all c = λ obstacles e.
    c.count_met_at.ensures.value ∙ meeting_same obstacles c.as_slice-tracks.result.now c.args.ego.now c.args.tick (c.as_slice-tracks.ensures ∙ c.self.view_is ∙ e)
