use Rattle.std.proofs.Common.{◌∙◌}
use Rattle.moving_obstacles.proofs.Same.{length_same}
use Rattle.moving_obstacles.proofs.traffic.Traffic.count.Goals as goal

pub returns-clause-all : goal.returns-clause-all
returns-clause-all c = λ obstacles e. length_same obstacles c.as_slice.result.now (c.as_slice.ensures ∙ c.self.view_is ∙ e)
