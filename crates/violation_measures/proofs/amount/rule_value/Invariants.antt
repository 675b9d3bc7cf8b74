use Rattle.std.proofs.Common.{◌≡◌, ◌≤◌, ◌*◌, take}
use Rattle.violation_measures.specs.Measured.{measured_at}
use Rattle.violation_measures.specs.Resolved.{step_amount}
use Rattle.violation_measures.specs.Sources.{at_step}
use Rattle.violation_measures.specs.declared.amount.TheConstants.{MAX_PART_AMOUNT}
use Rattle.violation_measures.proofs.amount.rule_value.Given as goal

abbrev pub invariant-loop-part : goal.invariant-loop-part
invariant-loop-part g l =
    (l.sum ≡ step_amount (measured_at l.values) (at_step (g.S.FeatureSource.features l.source) l.step) (take l.part-index l.parts))
    × (l.sum ≤ l.part-index * MAX_PART_AMOUNT)
