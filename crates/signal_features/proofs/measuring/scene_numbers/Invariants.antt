use Rattle.std.proofs.Common.{◌≡◌, ◌<◌, ℕ, length}
use Rattle.std.specs.Prelude.{slice_index_or}
use Rattle.signal_features.specs.Measuring.{scene_number}
use Rattle.violation_measures.specs.declared.used.TheConstants.{MAX_MEASURED}
use Rattle.signal_features.proofs.measuring.scene_numbers.Given as goal

abbrev pub invariant-loop-place : goal.invariant-loop-place
invariant-loop-place l =
    (length l.asked ≡ MAX_MEASURED)
    × ((k : ℕ) → k < l.place → slice_index_or l.asked k 0 ≡ scene_number (slice_index_or l.used k 0))
