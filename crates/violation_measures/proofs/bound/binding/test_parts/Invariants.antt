use Rattle.std.proofs.Common.{take}
use Rattle.std.specs.Prelude.{All}
use Rattle.violation_measures.specs.Binding.{MayBind}
use Rattle.violation_measures.proofs.bound.binding.test_parts.Given as goal

abbrev pub invariant-loop-part : goal.invariant-loop-part
invariant-loop-part g l = All (MayBind (g.S.FeatureSource.features l.source)) (take l.part-index l.parts)
