use Rattle.std.proofs.Common.{◌≡◌, take}
use Rattle.violation_measures.specs.Vectors.{run}
use Rattle.violation_measures.proofs.bound.Bound.run.Given as goal

abbrev pub invariant-loop-step : goal.invariant-loop-step
invariant-loop-step g l = l.vector ≡ run (g.S.FeatureSource.features l.source) l.self (take l.step-index l.steps)
