-- What a source of signals has the scene's source measure.
use Rattle.std.specs.Prelude.{◌≡◌, ℕ, ◌<◌, List, length, nat_lt, slice_index_or, if◌then◌else◌}
use Rattle.violation_measures.specs.Scenes.{number}
use Rattle.violation_measures.specs.declared.feature.Feature.TheVariants as scene
use Rattle.signal_features.specs.declared.feature.TheConstants.{FIRST_NUMBER}

-- the number itself where it is the scene's, and that of its tick in place of others
unfoldable pub scene_number : ℕ → ℕ
scene_number n = if nat_lt n FIRST_NUMBER then n else number scene.Tick

-- at the place of each number stands what is asked in its place
pub record AreAsked (used asked : List ℕ) : Type 0 where
  pub each : (k : ℕ) → k < length used → slice_index_or asked k 0
      ≡ scene_number (slice_index_or used k 0)
