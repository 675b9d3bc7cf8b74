use Rattle.std.proofs.Common.{◌≡◌, length, All}
use Rattle.violation_measures.specs.Steps.{IsStep}
use Rattle.world_trials.proofs.violation_measures_tests.ticks.Given as goal

abbrev pub invariant-loop-tick : goal.invariant-loop-tick
invariant-loop-tick l = (length l.steps ≡ l.tick) × All IsStep l.steps
