use Rattle.std.proofs.Common.{take}
use Rattle.std.specs.Prelude.{All}
use Rattle.violation_measures.specs.Binding.{RuleMayBind}
use Rattle.violation_measures.proofs.bound.binding.test_rules.Given as goal

abbrev pub invariant-loop-number : goal.invariant-loop-number
invariant-loop-number g l = All (RuleMayBind (g.S.FeatureSource.features l.source)) (take l.number l.rules)
