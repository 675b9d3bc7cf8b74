use Rattle.std.proofs.Common.{List, ℕ, ap, sym, subst, ◌∙◌}
use Rattle.scenario_model.specs.Scenario.{IsProblem}
use Rattle.lanelet_network.specs.Lanes.{lane_ids}
use Rattle.lanelet_network.proofs.Ids.{ids_kept}
use Rattle.bound_scene.proofs.scenes.graph_of.Goals as goal

pub new-requires-clause-problem : goal.new-requires-clause-problem
new-requires-clause-problem c = subst (λ (ids : List ℕ). IsProblem ids c.first_problem.result.now) (sym (ap lane_ids c.requires.bound.network ∙ ids_kept c.args.scene.now.files.scenario.lanelets)) c.first_problem.ensures.sound
