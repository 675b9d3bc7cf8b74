use Rattle.std.proofs.Common.{◌≡◌, take, map}
use Rattle.violation_measures.specs.Resolved.{resolved_part}
use Rattle.violation_measures.proofs.bound.binding.resolve_parts.Given as goal

abbrev pub invariant-loop-part : goal.invariant-loop-part
invariant-loop-part g l = l.bound ≡ map (resolved_part (g.S.FeatureSource.features l.source).find l.at_steps l.at_end) (take l.part-index l.parts)
