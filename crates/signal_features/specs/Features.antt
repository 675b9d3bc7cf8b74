-- The features of signals, in one table with those of the scene: names, values, bounds, numbers.
-- This project's own.
use Rattle.std.specs.Prelude.{◌≡◌, ◌↔◌, ℕ, ◌+◌, ◌-◌, ◌<◌, ◌==◌, ◌&&◌, ℤ, pos, Bool, false, List, [], length}
use Rattle.std.specs.Prelude.{count_by, Option, Some, None, IsSome, if◌then◌else◌, codes, nat_lt}
use Rattle.std.specs.Prelude.{find, map, slice_get, slice_index_or}
use Rattle.std.specs.Int.{int_min}
use Rattle.std.specs.List.{filter, filter_map, fold, list_any, position, range_with_len}
use Rattle.std.specs.Option.{option_map, option_map_or}
use Rattle.std.specs.Str.{bytes_eq}
use Rattle.expressions.specs.declared.tree.Argument.{Argument}
use Rattle.expressions.specs.declared.tree.Argument.TheVariants.{Named, Number}
use Rattle.fixed_geometry.specs.declared.point.Point.{Point}
use Rattle.lanelet_network.specs.Lanes.{Lane, holds_at}
use Rattle.scenario_model.specs.declared.limits.TheConstants.{MAX_SPEED, MAX_LANELETS}
use Rattle.scenario_model.specs.declared.problem.Span.{Span}
use Rattle.violation_measures.specs.Scenes.{Scene, center, one_if, up_to, feature_named}
use Rattle.violation_measures.specs.Scenes.{value_in as scene_value, bounds_in as scene_bounds}
use Rattle.violation_measures.specs.Scenes.{features_of as scene_features}
use Rattle.violation_measures.specs.Sources.{Features}
use Rattle.violation_measures.specs.declared.feature.Feature.{Feature}
use Rattle.violation_measures.specs.declared.step.Step.{Step}
use Rattle.signal_features.specs.Lights.{is_red, green_in}
use Rattle.signal_features.specs.declared.feature.SignalFeature.{SignalFeature}
use Rattle.signal_features.specs.declared.feature.SignalFeature.TheVariants as feature
use Rattle.signal_features.specs.declared.feature.TheConstants.{FIRST_NUMBER, FIRST_LIGHT}
use Rattle.signal_features.specs.declared.feature.TheConstants.{FIRST_GREEN_IN, PAST_NUMBERS}
use Rattle.signal_features.specs.declared.limits.TheConstants.{MAX_WAIT}
use Rattle.signal_features.specs.declared.signals.Light.{Light}
use Rattle.signal_features.specs.declared.signals.SignalUse.{SignalUse}
use Rattle.signal_features.specs.declared.signals.Signals.{Signals}
use Rattle.signal_features.specs.declared.signals.SpeedSign.{SpeedSign}

-- a scene with its signals, of which the uses are in the order of the lanelets
pub record Signalled : Type 0 where
  pub scene : Scene
  pub signals : Signals

-- ---- signs and lights by their ids: of several with one id the first counts

abbrev pub sign_has_id : ℕ → SpeedSign → Bool
sign_has_id id sign = sign.id == id

abbrev pub light_has_id : ℕ → Light → Bool
light_has_id id light = light.id == id

-- the limit of the sign with an id
unfoldable pub limit_with : List SpeedSign → ℕ → Option ℤ
limit_with signs id = option_map (λ (s : SpeedSign). s.limit) (find (sign_has_id id) signs)

-- the place of the light with an id
abbrev pub place_with : List Light → ℕ → Option ℕ
place_with lights id = position (light_has_id id) lights

-- the light at a place is red at a tick
unfoldable pub is_red_there : List Light → ℕ → ℕ → Bool
is_red_there lights tick place =
    option_map_or (λ (l : Light). is_red l tick) (slice_get lights place) false

-- after how many ticks the light at a place is not red
unfoldable pub green_in_there : List Light → ℕ → ℕ → ℕ
green_in_there lights tick place =
    option_map_or (λ (l : Light). green_in l tick) (slice_get lights place) 0

-- the light with an id is red at a tick
unfoldable pub is_red_with : List Light → ℕ → ℕ → Bool
is_red_with lights tick id = option_map_or (is_red_there lights tick) (place_with lights id) false

-- ---- the lanelets that hold a point

-- their places
abbrev pub holding : List Lane → Point → List ℕ
holding lanes p = filter (λ place. holds_at lanes place p) (range_with_len 0 (length lanes))

abbrev pub no_use : SignalUse
no_use = record { lanelet = 0; signs = []; lights = [] }

-- what the lanelet at a place refers to
abbrev pub use_of : Signals → ℕ → SignalUse
use_of s place = slice_index_or s.uses place no_use

-- the least of some limits, `MAX_SPEED` where there is none
abbrev pub least : List ℤ → ℤ
least limits = fold int_min (pos MAX_SPEED) limits

-- the least limit of the signs that a lanelet refers to
unfoldable pub limit_in : Signals → SignalUse → ℤ
limit_in s u = least (filter_map (limit_with s.signs) u.signs)

-- a lanelet refers to a light that is red at a tick
unfoldable pub has_red : Signals → ℕ → SignalUse → Bool
has_red s tick u = list_any (is_red_with s.lights tick) u.lights

-- the least limit of the signs of the lanelets that hold a point
unfoldable pub speed_limit : List Lane → Signals → Point → ℤ
speed_limit lanes s p = least (map (λ place. limit_in s (use_of s place)) (holding lanes p))

-- how many lanelets hold a point and have a light that is red at a tick
unfoldable pub red : List Lane → Signals → Point → ℕ → ℕ
red lanes s p tick = count_by (λ place. has_red s tick (use_of s place)) (holding lanes p)

-- the same, said of each place: what the lanelet there adds, if it holds the point
unfoldable pub limit_at : List Lane → Signals → Point → ℕ → ℤ
limit_at lanes s p place =
    if holds_at lanes place p then limit_in s (use_of s place) else pos MAX_SPEED

unfoldable pub is_red_place : List Lane → Signals → Point → ℕ → ℕ → Bool
is_red_place lanes s p tick place =
    holds_at lanes place p && has_red s tick (use_of s place)

-- ---- the table: names, values, bounds

-- the feature of a name without argument
unfoldable pub plain : List ℕ → Option SignalFeature
plain name =
    if bytes_eq name (codes "speed_limit") then Some feature.SpeedLimit
    else if bytes_eq name (codes "red") then Some feature.Red
    else None

-- the feature of a light, which is one of these
unfoldable pub of_light : List Light → List ℕ → ℕ → Option SignalFeature
of_light lights name id =
    if bytes_eq name (codes "light") then
    option_map feature.Light (place_with lights id)
    else if bytes_eq name (codes "green_in") then
    option_map feature.GreenIn (place_with lights id)
    else None

-- the feature of signals of a name and an argument
abbrev pub signal_named : Signals → List ℕ → Option Argument → Option SignalFeature
signal_named s name None = plain name
signal_named s name (Some (Number id)) = of_light s.lights name id
signal_named s name (Some (Named about)) = None

-- a row of the table: of the scene, or of its signals
pub data Row : Type 0 where
  of_scene : Feature → Row
  of_signals : SignalFeature → Row

abbrev pub or_scene : Option SignalFeature → Option Feature → Option Row
or_scene (Some row) other = Some (of_signals row)
or_scene None other = option_map of_scene other

-- the feature of a name and an argument, and none for all else
abbrev pub row_named : Signalled → List ℕ → Option Argument → Option Row
row_named world name argument =
    or_scene (signal_named world.signals name argument) (feature_named world.scene name argument)

-- the value of a feature of signals at a step
abbrev pub signal_value : List Lane → Signals → SignalFeature → Step → ℤ
signal_value lanes s feature.SpeedLimit step = speed_limit lanes s (center step)
signal_value lanes s feature.Red step = pos (red lanes s (center step) step.tick)
signal_value lanes s (feature.Light place) step =
    one_if (is_red_there s.lights step.tick place)
signal_value lanes s (feature.GreenIn place) step =
    pos (green_in_there s.lights step.tick place)

-- the value at a step
abbrev pub row_value : Signalled → Row → Step → ℤ
row_value world (of_scene row) step = scene_value world.scene row step
row_value world (of_signals row) step = signal_value world.scene.lanes world.signals row step

abbrev pub signal_bounds : SignalFeature → Span
signal_bounds feature.SpeedLimit = up_to (pos MAX_SPEED)
signal_bounds feature.Red = up_to (pos MAX_LANELETS)
signal_bounds (feature.Light place) = up_to (pos 1)
signal_bounds (feature.GreenIn place) = up_to (pos MAX_WAIT)

-- the bounds
abbrev pub row_bounds : Row → Span
row_bounds (of_scene row) = scene_bounds row
row_bounds (of_signals row) = signal_bounds row

-- ---- the numbers of the features

abbrev pub signal_number : SignalFeature → ℕ
signal_number feature.SpeedLimit = FIRST_NUMBER
signal_number feature.Red = FIRST_NUMBER + 1
signal_number (feature.Light place) = FIRST_LIGHT + place
signal_number (feature.GreenIn place) = FIRST_GREEN_IN + place

-- the feature of signals of a number from `FIRST_NUMBER` on
unfoldable pub signal_numbered : ℕ → SignalFeature
signal_numbered n =
    if n == FIRST_NUMBER then feature.SpeedLimit
    else if nat_lt n FIRST_LIGHT then feature.Red
    else if nat_lt n FIRST_GREEN_IN then feature.Light (n - FIRST_LIGHT)
    else feature.GreenIn (n - FIRST_GREEN_IN)

abbrev pub number_or_scene : Option SignalFeature → Option ℕ → Option ℕ
number_or_scene (Some row) other = Some (signal_number row)
number_or_scene None other = other

-- What a source of the features of a scene with signals answers: by a number below `FIRST_NUMBER`
-- what the scene's source does.
abbrev pub features_with : Features → List Lane → Signals → Features
features_with scene lanes s = record {
  find =
      λ name argument. number_or_scene (signal_named s name argument) (scene.find name argument);
  bounds =
      λ n. if nat_lt n FIRST_NUMBER then scene.bounds n else signal_bounds (signal_numbered n);
  value = λ n step.
      if nat_lt n FIRST_NUMBER then scene.value n step
      else signal_value lanes s (signal_numbered n) step;
}

abbrev pub features_of : Signalled → Features
features_of world =
    features_with (scene_features world.scene) world.scene.lanes world.signals

-- The source knows exactly the features of the table, each with its value and its bounds there;
-- each has a number of its own, below `PAST_NUMBERS`.
pub record HasRows (world : Signalled) (f : Features) : Type 0 where
  pub exactly : (name : List ℕ) (argument : Option Argument) → IsSome (f.find name argument)
      ↔ IsSome (row_named world name argument)
  pub value : (name : List ℕ) (argument : Option Argument) (n : ℕ) (row : Row)
      → f.find name argument ≡ Some n → row_named world name argument ≡ Some row → (step : Step)
      → f.value n step ≡ row_value world row step
  pub bounds : (name : List ℕ) (argument : Option Argument) (n : ℕ) (row : Row)
      → f.find name argument ≡ Some n → row_named world name argument ≡ Some row
      → f.bounds n ≡ row_bounds row
  pub small : (name : List ℕ) (argument : Option Argument) (n : ℕ) → f.find name argument ≡ Some n
      → n < PAST_NUMBERS
  pub own : (name other : List ℕ) (argument another : Option Argument) (n : ℕ)
      → f.find name argument ≡ Some n → f.find other another ≡ Some n
      → (name ≡ other) × (argument ≡ another)
