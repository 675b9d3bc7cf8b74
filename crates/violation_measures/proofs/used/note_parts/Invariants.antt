use Rattle.std.proofs.Common.{◌≡◌, take}
use Rattle.std.specs.List.{fold}
use Rattle.violation_measures.specs.Measured.{noted, part_numbers}
use Rattle.violation_measures.proofs.used.note_parts.Given as goal

abbrev pub invariant-loop-part : goal.invariant-loop-part
invariant-loop-part g l = l.used ≡ fold noted l.initial.used (part_numbers (g.S.FeatureSource.features l.source).find l.at_end (take l.part-index l.parts))
