-- The features of signals have numbers of their own beside those of the scene, and lie in their
-- bounds.
use Rattle.std.proofs.Common.{◌≡◌, ◌∙◌, ℕ, ◌+◌, ◌-◌, ◌<◌, ◌≤◌, Bool, true, false, cond, ℤ, pos, ◌≤ℤ◌, neg_ℤ, List, [], ◌∷◌, length, map, get_or, refl, sym, ap, subst, arith, Option, None, Some, inl, inr}
use Rattle.std.specs.Prelude.{All, IsSome, ◌==◌, ◌↔◌, codes, nat_lt, count_by, find, slice_get}
use Rattle.std.specs.Int.{int_min}
use Rattle.std.specs.List.{filter, filter_map, cons_option, fold, position, position_or_len, range_with_len}
use Rattle.std.specs.Option.{option_map, option_map_or}
use Rattle.std.specs.Str.{bytes_eq}
use Rattle.std.proofs.lemmas.Bool.{cases_lt}
use Rattle.std.proofs.lemmas.Bool.Decides.{nat_tests, Decides-eqb}
use Rattle.std.proofs.lemmas.Int.{ints, clamps}
use Rattle.std.proofs.lemmas.List.Quantifiers.{position-Some}
use Rattle.std.proofs.lemmas.List.Sums.{count_by-le-length, length-filter}
use Rattle.std.proofs.lemmas.List.FromFn.{length-range_with_len}
use Rattle.std.proofs.lemmas.Slice.Eq.{bytes_eq-Decides}
use Rattle.expressions.specs.declared.tree.Argument.{Argument}
use Rattle.expressions.specs.declared.tree.Argument.TheVariants.{Named, Number}
use Rattle.fixed_geometry.specs.declared.point.Point.{Point}
use Rattle.lanelet_network.specs.Lanes.{Lane, holds_at}
use Rattle.scenario_model.specs.declared.limits.TheConstants.{MAX_SPEED, MAX_LANELETS}
use Rattle.scenario_model.specs.declared.problem.Span.{Span}
use Rattle.violation_measures.specs.Intervals.{IsIn}
use Rattle.violation_measures.specs.Scenes.{Scene, one_if, center, feature_named, HasTable}
use Rattle.violation_measures.specs.Scenes.{features_of as scene_features, value_in as scene_value, bounds_in as scene_bounds}
use Rattle.violation_measures.specs.Sources.{Features, IsKnown, AreSound}
use Rattle.violation_measures.specs.Steps.{IsStep}
use Rattle.violation_measures.specs.declared.feature.Feature.{Feature}
use Rattle.violation_measures.specs.declared.feature.TheConstants.{PAST_FEATURES}
use Rattle.violation_measures.specs.declared.source.TheConstants.{MAX_BOUND}
use Rattle.violation_measures.specs.declared.step.Step.{Step}
use Rattle.signal_features.specs.Features.{Signalled, light_has_id, place_with, plain, of_light}
use Rattle.signal_features.specs.Features.{signal_named, Row, of_scene, of_signals, or_scene, row_named}
use Rattle.signal_features.specs.Features.{row_value, row_bounds, signal_value, signal_bounds}
use Rattle.signal_features.specs.Features.{signal_number, signal_numbered, number_or_scene}
use Rattle.signal_features.specs.Features.{features_of, HasRows}
use Rattle.signal_features.specs.Sound.{AreSignals}
use Rattle.signal_features.specs.ValueLaws.{IsBounded, bounds_bounded, value_within}
use Rattle.signal_features.specs.declared.feature.SignalFeature.{SignalFeature}
use Rattle.signal_features.specs.declared.feature.SignalFeature.TheVariants as feature
use Rattle.signal_features.specs.declared.feature.TheConstants.{FIRST_NUMBER, FIRST_LIGHT}
use Rattle.signal_features.specs.declared.feature.TheConstants.{FIRST_GREEN_IN, PAST_NUMBERS}
use Rattle.signal_features.specs.declared.limits.TheConstants.{MAX_LIGHTS}
use Rattle.signal_features.specs.declared.signals.Light.{Light}
use Rattle.signal_features.specs.declared.signals.Signals.{Signals}

-- ---- names and numbers

no_light : Light
no_light = record { id = 0; phases = []; offset = 0 }

abbrev name_of : SignalFeature → List ℕ
name_of feature.SpeedLimit = codes "speed_limit"
name_of feature.Red = codes "red"
name_of (feature.Light place) = codes "light"
name_of (feature.GreenIn place) = codes "green_in"

abbrev argument_of : List Light → SignalFeature → Option Argument
argument_of lights feature.SpeedLimit = None
argument_of lights feature.Red = None
argument_of lights (feature.Light place) = Some (Number (get_or lights place no_light).id)
argument_of lights (feature.GreenIn place) = Some (Number (get_or lights place no_light).id)

abbrev IsPlaced : SignalFeature → Type 0
IsPlaced feature.SpeedLimit = Unit {0}
IsPlaced feature.Red = Unit {0}
IsPlaced (feature.Light place) = place < MAX_LIGHTS
IsPlaced (feature.GreenIn place) = place < MAX_LIGHTS

-- what is so of the feature of a name and an argument
record IsRow (lights : List Light) (name : List ℕ) (argument : Option Argument)
    (row : SignalFeature) : Type 0 where
  named : name ≡ name_of row
  about : argument ≡ argument_of lights row
  placed : IsPlaced row

same_bytes : (name text : List ℕ) → bytes_eq name text ≡ true → name ≡ text
same_bytes name text e = (bytes_eq-Decides name text).0 e

chosen : (lights : List Light) (name : List ℕ) (argument : Option Argument) (b : Bool) (first rest : Option SignalFeature)
    → ((row : SignalFeature) → b ≡ true → first ≡ Some row → IsRow lights name argument row)
    → ((row : SignalFeature) → rest ≡ Some row → IsRow lights name argument row) → (row : SignalFeature)
    → cond b first rest ≡ Some row → IsRow lights name argument row
chosen lights name argument true first rest h k row e = h row refl e
chosen lights name argument false first rest h k row e = k row e

no_row : (lights : List Light) (name : List ℕ) (argument : Option Argument) (row : SignalFeature)
    → None ≡ Some row → IsRow lights name argument row
no_row lights name argument row e = absurd cc

this_row : (lights : List Light) (name : List ℕ) (argument : Option Argument) (this row : SignalFeature)
    → IsRow lights name argument this → Some this ≡ Some row → IsRow lights name argument row
this_row lights name argument this row h e =
    let same : this ≡ row = cc in subst (IsRow lights name argument) same h

plain_row : (lights : List Light) (name : List ℕ) (row : SignalFeature) → plain name ≡ Some row
    → IsRow lights name None row
unfolding plain
plain_row lights name =
    chosen lights name None _ (Some feature.SpeedLimit) _ (λ row t.
    this_row lights name None feature.SpeedLimit row (record { named = same_bytes name _ t; about = refl; placed = tt }))
    (chosen lights name None _ (Some feature.Red) _ (λ row t.
    this_row lights name None feature.Red row (record { named = same_bytes name _ t; about = refl; placed = tt }))
    (no_row lights name None))

-- the place of the light with the id
record IsPlace (lights : List Light) (id place : ℕ) : Type 0 where
  below : place < MAX_LIGHTS
  about : Some (Number id) ≡ Some (Number (get_or lights place no_light).id)

is_place : (lights : List Light) (id place : ℕ) → length lights ≤ MAX_LIGHTS → place_with lights id ≡ Some place → IsPlace lights id place
is_place lights id place few e =
    let there = position-Some (light_has_id id) lights place no_light e in
    let own : (get_or lights place no_light).id ≡ id = (Decides-eqb (get_or lights place no_light).id id).0 there.1 in
    record {
      below = omega (arith, there.0, few);
      about = ap (λ (n : ℕ). Some (Number n)) (sym own);
    }

light_row : (lights : List Light) (name : List ℕ) (id : ℕ) → length lights ≤ MAX_LIGHTS → name ≡ codes "light" → (found : Option ℕ) → place_with lights id ≡ found
    → (row : SignalFeature) → option_map feature.Light found ≡ Some row → IsRow lights name (Some (Number id)) row
light_row lights name id few named None is row e = absurd cc
light_row lights name id few named (Some place) is row e =
    let there = is_place lights id place few is in
    this_row lights name (Some (Number id)) (feature.Light place) row (record { named = named; about = there.about; placed = there.below }) e

green_row : (lights : List Light) (name : List ℕ) (id : ℕ) → length lights ≤ MAX_LIGHTS → name ≡ codes "green_in" → (found : Option ℕ) → place_with lights id ≡ found
    → (row : SignalFeature) → option_map feature.GreenIn found ≡ Some row → IsRow lights name (Some (Number id)) row
green_row lights name id few named None is row e = absurd cc
green_row lights name id few named (Some place) is row e =
    let there = is_place lights id place few is in
    this_row lights name (Some (Number id)) (feature.GreenIn place) row (record { named = named; about = there.about; placed = there.below }) e

about_row : (lights : List Light) (name : List ℕ) (id : ℕ) → length lights ≤ MAX_LIGHTS → (row : SignalFeature) → of_light lights name id ≡ Some row
    → IsRow lights name (Some (Number id)) row
unfolding of_light
about_row lights name id few =
    chosen lights name (Some (Number id)) _ (option_map feature.Light (place_with lights id)) _
    (λ row t. light_row lights name id few (same_bytes name _ t) (place_with lights id) refl row)
    (chosen lights name (Some (Number id)) _ (option_map feature.GreenIn (place_with lights id)) _
    (λ row t. green_row lights name id few (same_bytes name _ t) (place_with lights id) refl row)
    (no_row lights name (Some (Number id))))

row_is : (s : Signals) → length s.lights ≤ MAX_LIGHTS → (name : List ℕ) (argument : Option Argument) (row : SignalFeature)
    → signal_named s name argument ≡ Some row → IsRow s.lights name argument row
row_is s few name None row e = plain_row s.lights name row e
row_is s few name (Some (Number id)) row e = about_row s.lights name id few row e
row_is s few name (Some (Named about)) row e = absurd cc

-- ---- numbers

light_back : (place : ℕ) → place < MAX_LIGHTS → signal_numbered (FIRST_LIGHT + place) ≡ feature.Light place
unfolding signal_numbered
light_back place h =
    let first : (FIRST_LIGHT + place == FIRST_NUMBER) ≡ false = grind (arith, nat_tests) in
    let low : nat_lt (FIRST_LIGHT + place) FIRST_LIGHT ≡ false = grind (arith, nat_tests) in
    let high : nat_lt (FIRST_LIGHT + place) FIRST_GREEN_IN ≡ true = grind (arith, nat_tests, h) in
    let back : FIRST_LIGHT + place - FIRST_LIGHT ≡ place = omega arith in
    rw (first, low, high) (ap feature.Light back)

green_back : (place : ℕ) → signal_numbered (FIRST_GREEN_IN + place) ≡ feature.GreenIn place
unfolding signal_numbered
green_back place =
    let first : (FIRST_GREEN_IN + place == FIRST_NUMBER) ≡ false = grind (arith, nat_tests) in
    let low : nat_lt (FIRST_GREEN_IN + place) FIRST_LIGHT ≡ false = grind (arith, nat_tests) in
    let high : nat_lt (FIRST_GREEN_IN + place) FIRST_GREEN_IN ≡ false = grind (arith, nat_tests) in
    let back : FIRST_GREEN_IN + place - FIRST_GREEN_IN ≡ place = omega arith in
    rw (first, low, high) (ap feature.GreenIn back)

numbered_back : (row : SignalFeature) → IsPlaced row → signal_numbered (signal_number row) ≡ row
unfolding signal_numbered
numbered_back feature.SpeedLimit h = refl
numbered_back feature.Red h = refl
numbered_back (feature.Light place) h = light_back place h
numbered_back (feature.GreenIn place) h = green_back place

-- numbers of signals are those from the first on
pub record IsOwnNumber (n : ℕ) : Type 0 where
  pub low : FIRST_NUMBER ≤ n
  pub high : n < PAST_NUMBERS

own_number : (row : SignalFeature) → IsPlaced row → IsOwnNumber (signal_number row)
own_number feature.SpeedLimit h = record { low = omega arith; high = omega arith }
own_number feature.Red h = record { low = omega arith; high = omega arith }
own_number (feature.Light place) h = record { low = omega arith; high = omega (arith, h) }
own_number (feature.GreenIn place) h = record { low = omega arith; high = omega (arith, h) }

pub named_small : (s : Signals) → length s.lights ≤ MAX_LIGHTS → (name : List ℕ) (argument : Option Argument) (row : SignalFeature)
    → signal_named s name argument ≡ Some row → IsOwnNumber (signal_number row)
named_small s few name argument row e = own_number row (row_is s few name argument row e).placed

pub below_first : (n : ℕ) → n < FIRST_NUMBER → nat_lt n FIRST_NUMBER ≡ true
below_first n h = grind (arith, nat_tests)

pub from_first : (n : ℕ) → FIRST_NUMBER ≤ n → nat_lt n FIRST_NUMBER ≡ false
from_first n h = grind (arith, nat_tests)

-- what a number that is found is the number of
data IsFound (world : Signalled) (name : List ℕ) (argument : Option Argument) (n : ℕ) : Type 0 where
  as_signal : (row : SignalFeature) → signal_named world.signals name argument ≡ Some row → n ≡ signal_number row → IsFound world name argument n
  as_scene : signal_named world.signals name argument ≡ None → (scene_features world.scene).find name argument ≡ Some n → IsFound world name argument n

found_in : (world : Signalled) (name : List ℕ) (argument : Option Argument) (n : ℕ) (o : Option SignalFeature) → signal_named world.signals name argument ≡ o
    → number_or_scene o ((scene_features world.scene).find name argument) ≡ Some n → IsFound world name argument n
found_in world name argument n (Some row) is e = as_signal row is (let same : signal_number row ≡ n = cc in sym same)
found_in world name argument n None is e = as_scene is e

found : (world : Signalled) (name : List ℕ) (argument : Option Argument) (n : ℕ) → (features_of world).find name argument ≡ Some n → IsFound world name argument n
found world name argument n e = found_in world name argument n (signal_named world.signals name argument) refl e

-- ---- the table

both_some : (o : Option SignalFeature) (m : Option ℕ) (r : Option Feature) → IsSome m ↔ IsSome r → IsSome (number_or_scene o m) ↔ IsSome (or_scene o r)
both_some (Some row) m r h = (λ k. k, λ k. k)
both_some None m (Some row) h = h
both_some None m None h = h

-- the row that is found, by its number
record IsRowOf (world : Signalled) (row : Row) (n : ℕ) : Type 0 where
  value : (step : Step) → (features_of world).value n step ≡ row_value world row step
  bounds : (features_of world).bounds n ≡ row_bounds row

signal_row : (world : Signalled) (row : SignalFeature) (n : ℕ) → IsPlaced row → n ≡ signal_number row → IsRowOf world (of_signals row) n
signal_row world row n placed e =
    let back : signal_numbered n ≡ row = ap signal_numbered e ∙ numbered_back row placed in
    let high : FIRST_NUMBER ≤ n = omega (arith, e, (own_number row placed).low) in
    record {
      value = λ step. rw (from_first n high, back) refl;
      bounds = rw (from_first n high, back) refl;
    }

scene_row : (world : Signalled) → HasTable world.scene (scene_features world.scene) → (name : List ℕ) (argument : Option Argument) (row : Feature) (n : ℕ)
    → (scene_features world.scene).find name argument ≡ Some n → feature_named world.scene name argument ≡ Some row → IsRowOf world (of_scene row) n
scene_row world table name argument row n e is =
    let low : n < FIRST_NUMBER = table.small name argument n e in
    record {
      value = λ step. rw (below_first n low) (table.value name argument n row e is step);
      bounds = rw (below_first n low) (table.bounds name argument n row e is);
    }

row_of_scene : (world : Signalled) → HasTable world.scene (scene_features world.scene) → (name : List ℕ) (argument : Option Argument) (n : ℕ) (row : Row) (o : Option Feature)
    → (scene_features world.scene).find name argument ≡ Some n → feature_named world.scene name argument ≡ o → option_map of_scene o ≡ Some row → IsRowOf world row n
row_of_scene world table name argument n row (Some this) e is h =
    let same : of_scene this ≡ row = cc in
    subst (λ r. IsRowOf world r n) same (scene_row world table name argument this n e is)
row_of_scene world table name argument n row None e is h = absurd cc

row_of : (world : Signalled) → length world.signals.lights ≤ MAX_LIGHTS → HasTable world.scene (scene_features world.scene)
    → (name : List ℕ) (argument : Option Argument) (n : ℕ) (row : Row) → IsFound world name argument n → row_named world name argument ≡ Some row → IsRowOf world row n
row_of world few table name argument n row (as_signal this is e) h =
    let both : Some (of_signals this) ≡ Some row = sym (ap (λ o. or_scene o (feature_named world.scene name argument)) is) ∙ h in
    let same : of_signals this ≡ row = cc in
    subst (λ r. IsRowOf world r n) same (signal_row world this n (row_is world.signals few name argument this is).placed e)
row_of world few table name argument n row (as_scene is e) h =
    row_of_scene world table name argument n row (feature_named world.scene name argument) e refl (sym (ap (λ o. or_scene o (feature_named world.scene name argument)) is) ∙ h)

-- two names of one number
record AreOne (name other : List ℕ) (argument another : Option Argument) : Type 0 where
  names : name ≡ other
  arguments : argument ≡ another

both_signals : (s : Signals) → length s.lights ≤ MAX_LIGHTS → (name other : List ℕ) (argument another : Option Argument) (n : ℕ) (row next : SignalFeature)
    → signal_named s name argument ≡ Some row → n ≡ signal_number row → signal_named s other another ≡ Some next → n ≡ signal_number next
    → AreOne name other argument another
both_signals s few name other argument another n row next is e also f =
    let first = row_is s few name argument row is in
    let second = row_is s few other another next also in
    let same : row ≡ next = sym (numbered_back row first.placed) ∙ ap signal_numbered (sym e ∙ f) ∙ numbered_back next second.placed in
    record {
      names = first.named ∙ ap name_of same ∙ sym second.named;
      arguments = first.about ∙ ap (argument_of s.lights) same ∙ sym second.about;
    }

apart : (n : ℕ) → FIRST_NUMBER ≤ n → n < FIRST_NUMBER → ⊥
apart n low high = absurd (omega (arith, low, high))

are_one : (world : Signalled) → length world.signals.lights ≤ MAX_LIGHTS → HasTable world.scene (scene_features world.scene)
    → (name other : List ℕ) (argument another : Option Argument) (n : ℕ) → IsFound world name argument n → IsFound world other another n → AreOne name other argument another
are_one world few table name other argument another n (as_signal row is e) (as_signal next also f) =
    both_signals world.signals few name other argument another n row next is e also f
are_one world few table name other argument another n (as_signal row is e) (as_scene also f) =
    absurd (apart n (omega (arith, e, (named_small world.signals few name argument row is).low)) (table.small other another n f))
are_one world few table name other argument another n (as_scene is e) (as_signal next also f) =
    absurd (apart n (omega (arith, f, (named_small world.signals few other another next also).low)) (table.small name argument n e))
are_one world few table name other argument another n (as_scene is e) (as_scene also f) =
    let own = table.own name other argument another n e f in
    record { names = own.0; arguments = own.1 }

small_number : (world : Signalled) → length world.signals.lights ≤ MAX_LIGHTS → HasTable world.scene (scene_features world.scene)
    → (name : List ℕ) (argument : Option Argument) (n : ℕ) → IsFound world name argument n → n < PAST_NUMBERS
small_number world few table name argument n (as_signal row is e) = omega (arith, e, (named_small world.signals few name argument row is).high)
small_number world few table name argument n (as_scene is e) = omega (arith, table.small name argument n e)

pub has_rows : (world : Signalled) → length world.signals.lights ≤ MAX_LIGHTS → HasTable world.scene (scene_features world.scene) → HasRows world (features_of world)
has_rows world few table = record {
  exactly = λ name argument. both_some (signal_named world.signals name argument) ((scene_features world.scene).find name argument) (feature_named world.scene name argument) (table.exactly name argument);
  value = λ name argument n row e is. (row_of world few table name argument n row (found world name argument n e) is).value;
  bounds = λ name argument n row e is. (row_of world few table name argument n row (found world name argument n e) is).bounds;
  small = λ name argument n e. small_number world few table name argument n (found world name argument n e);
  own = λ name other argument another n e f.
      let one = are_one world few table name other argument another n (found world name argument n e) (found world other another n f) in
      (one.names, one.arguments);
}

-- ---- bounds

record IsGood (world : Signalled) (n : ℕ) : Type 0 where
  bounded : IsBounded ((features_of world).bounds n)
  within : (step : Step) → IsStep step → IsIn ((features_of world).bounds n) ((features_of world).value n step)

good : (world : Signalled) (ids : List ℕ) → length world.scene.lanes ≤ MAX_LANELETS → AreSignals ids world.signals → HasTable world.scene (scene_features world.scene) → AreSound (scene_features world.scene)
    → (name : List ℕ) (argument : Option Argument) (n : ℕ) → IsFound world name argument n → IsGood world n
good world ids few h table scene name argument n (as_signal row is e) =
    let high : FIRST_NUMBER ≤ n = omega (arith, e, (named_small world.signals h.few_lights name argument row is).low) in
    record {
      bounded = rw (from_first n high) (bounds_bounded (signal_numbered n));
      within = λ step k. rw (from_first n high) (value_within world.scene.lanes ids world.signals few h (signal_numbered n) step);
    }
good world ids few h table scene name argument n (as_scene is e) =
    let low : n < FIRST_NUMBER = table.small name argument n e in
    let known : IsKnown (scene_features world.scene) n = (name, argument, e) in
    record {
      bounded = rw (below_first n low) (record { least = scene.least n known; ordered = scene.ordered n known; most = scene.most n known });
      within = λ step k. rw (below_first n low) (scene.within n step known k);
    }

pub features_sound : (world : Signalled) (ids : List ℕ) → length world.scene.lanes ≤ MAX_LANELETS → AreSignals ids world.signals → HasTable world.scene (scene_features world.scene) → AreSound (scene_features world.scene)
    → AreSound (features_of world)
features_sound world ids few h table scene = record {
  least = λ n k. (good world ids few h table scene k.0 k.1 n (found world k.0 k.1 n k.2)).bounded.least;
  ordered = λ n k. (good world ids few h table scene k.0 k.1 n (found world k.0 k.1 n k.2)).bounded.ordered;
  most = λ n k. (good world ids few h table scene k.0 k.1 n (found world k.0 k.1 n k.2)).bounded.most;
  within = λ n step k s. (good world ids few h table scene k.0 k.1 n (found world k.0 k.1 n k.2)).within step s;
}

known_by : (world : Signalled) → length world.signals.lights ≤ MAX_LIGHTS → (name : List ℕ) (argument : Option Argument) (n : ℕ) → IsFound world name argument n → n < FIRST_NUMBER → IsKnown (scene_features world.scene) n
known_by world few name argument n (as_signal row is e) low = absurd (apart n (omega (arith, e, (named_small world.signals few name argument row is).low)) low)
known_by world few name argument n (as_scene is e) low = (name, argument, e)

-- a number below the first of signals that is known is one that the scene's source knows
pub scene_knows : (world : Signalled) → length world.signals.lights ≤ MAX_LIGHTS → (n : ℕ) → IsKnown (features_of world) n → n < FIRST_NUMBER → IsKnown (scene_features world.scene) n
scene_knows world few n known low = known_by world few known.0 known.1 n (found world known.0 known.1 n known.2) low
