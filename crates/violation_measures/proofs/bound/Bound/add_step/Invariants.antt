use Rattle.std.proofs.Common.{◌≡◌}
use Rattle.violation_measures.specs.Vectors.{step_vector}
use Rattle.violation_measures.proofs.Added.{added}
use Rattle.violation_measures.proofs.bound.Bound.add_step.Given as goal

abbrev pub invariant-loop-i : goal.invariant-loop-i
invariant-loop-i g l = l.out ≡ added l.i l.initial.out (step_vector (g.S.FeatureSource.features l.source) l.self l.step)
