use Rattle.std.proofs.Common.{◌≡◌, take}
use Rattle.violation_measures.specs.Resolved.{resolved_rules}
use Rattle.violation_measures.proofs.bound.binding.resolve_rules.Given as goal

abbrev pub invariant-loop-rule : goal.invariant-loop-rule
invariant-loop-rule g l = l.bound ≡ resolved_rules (g.S.FeatureSource.features l.source).find l.at_steps l.at_end (take l.rule-index l.rules)
