use Rattle.std.proofs.Common.{◌≡◌, ◌<◌, ℕ, length}
use Rattle.std.specs.Prelude.{slice_index_or}
use Rattle.violation_measures.specs.Measured.{measured_at}
use Rattle.violation_measures.specs.declared.used.TheConstants.{MAX_MEASURED}
use Rattle.violation_measures.proofs.source.FeatureSource.measure.Given as goal

abbrev pub invariant-loop-place : goal.invariant-loop-place
invariant-loop-place g l =
    (length l.values ≡ MAX_MEASURED)
    × ((k : ℕ) → k < l.place → measured_at l.values k ≡ (g.Self.FeatureSource.features l.self).value (slice_index_or l.used k 0) l.step)
