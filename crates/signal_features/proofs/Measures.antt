-- What the scene's source measures, and what stands in its place.
use Rattle.std.proofs.Common.{◌≡◌, ◌∙◌, ℕ, ◌<◌, ◌≤◌, Bool, true, false, cond, ℤ, List, length, take, get_or, Option, Some, None, refl, sym, ap, subst, arith}
use Rattle.std.specs.Prelude.{All, codes, nat_lt, slice_index_or}
use Rattle.std.specs.List.{list_all}
use Rattle.std.proofs.lemmas.Bool.Decides.{nat_tests}
use Rattle.std.proofs.lemmas.List.{length-take, get_or-take, get_or_default}
use Rattle.std.proofs.lemmas.List.Sums.{AllPass-from_list_all}
use Rattle.violation_measures.specs.Measured.{measured_at, IsMeasured}
use Rattle.violation_measures.specs.Scenes.{Scene, number, plain, features_of as scene_features}
use Rattle.violation_measures.specs.Sources.{Features, IsKnown}
use Rattle.violation_measures.specs.declared.feature.Feature.TheVariants as scene
use Rattle.violation_measures.specs.declared.step.Step.{Step}
use Rattle.signal_features.specs.Features.{Signalled, features_of, signal_value, signal_numbered}
use Rattle.signal_features.specs.Measuring.{scene_number, AreAsked}
use Rattle.signal_features.specs.TableLaws.{scene_knows, below_first, from_first}
use Rattle.signal_features.specs.declared.feature.TheConstants.{FIRST_NUMBER}
use Rattle.signal_features.specs.declared.limits.TheConstants.{MAX_LIGHTS}

is_below : (n : ℕ) → nat_lt n FIRST_NUMBER ≡ true → n < FIRST_NUMBER
is_below n h = grind (arith, nat_tests, h)

-- ---- numbers

pub all_of_scene : (world : Signalled) → length world.signals.lights ≤ MAX_LIGHTS → (used : List ℕ) → All (IsKnown (features_of world)) used
    → list_all (λ n. nat_lt n FIRST_NUMBER) used ≡ true → All (IsKnown (scene_features world.scene)) used
all_of_scene world few used known below = λ k d lt.
    scene_knows world few (slice_index_or used k d) (known k d lt) (is_below (slice_index_or used k d) (AllPass-from_list_all (λ n. nat_lt n FIRST_NUMBER) used below k d lt))

tick_known : (s : Scene) → IsKnown (scene_features s) (number scene.Tick)
unfolding plain
tick_known s = (codes "tick", None, refl)

asked_by : (world : Signalled) → length world.signals.lights ≤ MAX_LIGHTS → (n : ℕ) → IsKnown (features_of world) n → (b : Bool) → nat_lt n FIRST_NUMBER ≡ b
    → IsKnown (scene_features world.scene) (cond b n (number scene.Tick))
asked_by world few n known true e = scene_knows world few n known (is_below n e)
asked_by world few n known false e = tick_known world.scene

asked_known : (world : Signalled) → length world.signals.lights ≤ MAX_LIGHTS → (n : ℕ) → IsKnown (features_of world) n → IsKnown (scene_features world.scene) (scene_number n)
unfolding scene_number
asked_known world few n known = asked_by world few n known (nat_lt n FIRST_NUMBER) refl

-- the number that is asked at a place
asked_at : (used asked : List ℕ) → AreAsked used asked → (k d : ℕ) → k < length (take (length used) asked) → slice_index_or (take (length used) asked) k d ≡ scene_number (slice_index_or used k 0)
asked_at used asked are k d lt =
    let inside : k < length used = omega (arith, lt, length-take (length used) asked) in
    let there : k < length asked = omega (arith, lt, length-take (length used) asked) in
    get_or-take (length used) asked k d inside ∙ get_or_default asked k d 0 there ∙ are.each k inside

pub all_asked : (world : Signalled) → length world.signals.lights ≤ MAX_LIGHTS → (used asked : List ℕ) → All (IsKnown (features_of world)) used → AreAsked used asked
    → All (IsKnown (scene_features world.scene)) (take (length used) asked)
all_asked world few used asked known are = λ k d lt.
    let inside : k < length used = omega (arith, lt, length-take (length used) asked) in
    subst (IsKnown (scene_features world.scene)) (sym (asked_at used asked are k d lt)) (asked_known world few (slice_index_or used k 0) (known k 0 inside))

-- ---- values

value_of : (world : Signalled) (step : Step) (n : ℕ) (b : Bool) → nat_lt n FIRST_NUMBER ≡ b
    → cond b ((scene_features world.scene).value (cond b n (number scene.Tick)) step) (signal_value world.scene.lanes world.signals (signal_numbered n) step)
    ≡ cond b ((scene_features world.scene).value n step) (signal_value world.scene.lanes world.signals (signal_numbered n) step)
value_of world step n true e = refl
value_of world step n false e = refl

pub value_there : (world : Signalled) (step : Step) (used asked : List ℕ) (measured : List ℤ) → AreAsked used asked → IsMeasured (scene_features world.scene) step (take (length used) asked) measured
    → (k : ℕ) → k < length used → length used ≤ length asked
    → cond (nat_lt (slice_index_or used k 0) FIRST_NUMBER) (measured_at measured k) (signal_value world.scene.lanes world.signals (signal_numbered (slice_index_or used k 0)) step)
    ≡ (features_of world).value (slice_index_or used k 0) step
unfolding scene_number
value_there world step used asked measured are is k lt room =
    let n = slice_index_or used k 0 in
    let inside : k < length (take (length used) asked) = omega (arith, lt, room, length-take (length used) asked) in
    let found : measured_at measured k ≡ (scene_features world.scene).value (scene_number n) step = is.each k inside ∙ ap (λ m. (scene_features world.scene).value m step) (asked_at used asked are k 0 inside) in
    ap (λ z. cond (nat_lt n FIRST_NUMBER) z (signal_value world.scene.lanes world.signals (signal_numbered n) step)) found ∙ value_of world step n (nat_lt n FIRST_NUMBER) refl
