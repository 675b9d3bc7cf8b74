use Rattle.std.proofs.Common.{◌≡◌, ◌<◌, ℕ, length}
use Rattle.std.specs.Prelude.{slice_index_or}
use Rattle.violation_measures.specs.Measured.{measured_at}
use Rattle.violation_measures.specs.declared.used.TheConstants.{MAX_MEASURED}
use Rattle.signal_features.specs.Features.{features_of}
use Rattle.signal_features.specs.Sources.{signalled_of}
use Rattle.signal_features.proofs.source.asked.SignalSourceFeatureSource.measure.Given as goal

abbrev pub invariant-loop-place : goal.invariant-loop-place
invariant-loop-place l =
    (length l.values ≡ MAX_MEASURED)
    × ((k : ℕ) → k < l.place → measured_at l.values k ≡ (features_of (signalled_of l.self)).value (slice_index_or l.used k 0) l.step)
