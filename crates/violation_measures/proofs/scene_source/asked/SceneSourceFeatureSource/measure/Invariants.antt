use Rattle.std.proofs.Common.{◌≡◌, ◌<◌, ℕ, length}
use Rattle.std.specs.Prelude.{slice_index_or}
use Rattle.violation_measures.specs.Measured.{measured_at}
use Rattle.violation_measures.specs.Scenes.{numbered, value_in}
use Rattle.violation_measures.specs.SceneSources.{scene_of}
use Rattle.violation_measures.specs.declared.used.TheConstants.{MAX_MEASURED}
use Rattle.violation_measures.proofs.scene_source.asked.SceneSourceFeatureSource.measure.Given as goal

abbrev pub invariant-loop-place : goal.invariant-loop-place
invariant-loop-place l =
    (length l.values ≡ MAX_MEASURED)
    × ((k : ℕ) → k < l.place → measured_at l.values k ≡ value_in (scene_of l.self) (numbered (slice_index_or l.used k 0)) l.step)
