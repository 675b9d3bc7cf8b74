use Rattle.std.proofs.Common.{◌≡◌, length, All}
use Rattle.scenario_model.specs.Scenario.{IsRead}
use Rattle.world_trials.proofs.lanelet_network_tests.bound.Given as goal

abbrev pub invariant-loop-x : goal.invariant-loop-x
invariant-loop-x l = (length l.bound ≡ l.x-index) × All IsRead l.bound
