use Rattle.std.proofs.Common.{rules, ◌∙◌, FitsSigned, w64, to_z-of_z}
use Rattle.moving_obstacles.proofs.Same.{nearest_gap_same}
use Rattle.moving_obstacles.proofs.Leasts.{nearest_gap_is}
use Rattle.moving_obstacles.proofs.traffic.Traffic.nearest_gap.Goals as goal

pub returns-clause-all : goal.returns-clause-all
returns-clause-all c = λ obstacles e.
    let fits : FitsSigned w64 c.least_gap_at.result = search rules in
    simp to_z-of_z (c.least_gap_at.ensures.value ∙ nearest_gap_same obstacles c.as_slice.result.now c.args.ego c.args.tick (c.as_slice.ensures ∙ c.self.view_is ∙ e))

pub returns-clause-least : goal.returns-clause-least
returns-clause-least c = λ obstacles e.
    let fits : FitsSigned w64 c.least_gap_at.result = search rules in
    simp to_z-of_z (nearest_gap_is obstacles c.args.ego c.args.tick c.least_gap_at.result (c.least_gap_at.ensures.value ∙ nearest_gap_same obstacles c.as_slice.result.now c.args.ego c.args.tick (c.as_slice.ensures ∙ c.self.view_is ∙ e)))
