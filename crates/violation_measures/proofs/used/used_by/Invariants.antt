use Rattle.std.proofs.Common.{◌≡◌, take, []}
use Rattle.std.specs.List.{fold}
use Rattle.violation_measures.specs.Measured.{noted, rule_numbers}
use Rattle.violation_measures.proofs.used.used_by.Given as goal

abbrev pub invariant-loop-rule : goal.invariant-loop-rule
invariant-loop-rule g l = l.used ≡ fold noted [] (rule_numbers (g.S.FeatureSource.features l.source).find l.at_end (take l.rule-index l.rules))
