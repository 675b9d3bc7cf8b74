use Rattle.std.proofs.Common.{◌≡◌, length, All}
use Rattle.scenario_model.specs.Scenario.{IsRead}
use Rattle.world_trials.proofs.lanelet_network_tests.row.Given as goal

abbrev pub invariant-loop-i : goal.invariant-loop-i
invariant-loop-i l = (length l.bound ≡ l.i) × All IsRead l.bound
