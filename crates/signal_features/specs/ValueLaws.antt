-- The values of the features of signals lie in their bounds.
use Rattle.std.proofs.Common.{◌≡◌, ◌∙◌, ℕ, ◌+◌, ◌*◌, ◌<◌, ◌≤◌, Bool, true, false, cond, ℤ, pos, ◌≤ℤ◌, neg_ℤ, List, [], ◌∷◌, length, map, get_or, refl, sym, ap, subst, arith, Option, None, Some, inl, inr}
use Rattle.std.specs.Prelude.{All, not, find, count_by, slice_get}
use Rattle.std.specs.Int.{int_min}
use Rattle.std.specs.List.{filter, filter_map, cons_option, fold, position, range_with_len, sum_by}
use Rattle.std.specs.Option.{option_map, option_map_or}
use Rattle.std.proofs.lemmas.Int.{ints, clamps, fold-int_min_bounds}
use Rattle.std.proofs.lemmas.List.Elements.{All-tail}
use Rattle.std.proofs.lemmas.List.Quantifiers.{position-Some}
use Rattle.std.proofs.lemmas.List.Sums.{count_by-le-length, length-filter, sum_by-le}
use Rattle.std.proofs.lemmas.List.FromFn.{length-range_with_len}
use Rattle.std.proofs.lemmas.Option.{slice_get_cases}
use Rattle.fixed_geometry.specs.declared.point.Point.{Point}
use Rattle.lanelet_network.specs.Lanes.{Lane, holds_at}
use Rattle.scenario_model.specs.declared.limits.TheConstants.{MAX_SPEED, MAX_LANELETS}
use Rattle.scenario_model.specs.declared.problem.Span.{Span}
use Rattle.violation_measures.specs.Intervals.{IsIn}
use Rattle.violation_measures.specs.Scenes.{one_if, center}
use Rattle.violation_measures.specs.declared.source.TheConstants.{MAX_BOUND}
use Rattle.violation_measures.specs.declared.step.Step.{Step}
use Rattle.signal_features.specs.Features.{sign_has_id, limit_with, limit_in, has_red, use_of, least, holding}
use Rattle.signal_features.specs.Features.{speed_limit, red, is_red_there, green_in_there, signal_value, signal_bounds}
use Rattle.signal_features.specs.Lights.{cycle, is_red, green_in}
use Rattle.signal_features.specs.Sound.{IsSign, IsPhase, IsLight, AreSignals}
use Rattle.signal_features.specs.declared.feature.SignalFeature.{SignalFeature}
use Rattle.signal_features.specs.declared.feature.SignalFeature.TheVariants as feature
use Rattle.signal_features.specs.declared.limits.TheConstants.{MAX_PHASES, MAX_PHASE_TICKS, MAX_WAIT}
use Rattle.signal_features.specs.declared.signals.Light.{Light}
use Rattle.signal_features.specs.declared.signals.Phase.{Phase}
use Rattle.signal_features.specs.declared.signals.Signals.{Signals}
use Rattle.signal_features.specs.declared.signals.SignalUse.{SignalUse}
use Rattle.signal_features.specs.declared.signals.SpeedSign.{SpeedSign}

-- ---- limits

found_step : {X : Type 0} (P : X → Type 0) (p : X → Bool) (x : X) (xs : List X) (b : Bool) → P x → ((y : X) → find p xs ≡ Some y → P y)
    → (y : X) → cond b (Some x) (find p xs) ≡ Some y → P y
found_step P p x xs true h k y e = let same : x ≡ y = cc in subst P same h
found_step P p x xs false h k y e = k y e

-- what is so of all is so of the one that is found
found_has : {X : Type 0} (P : X → Type 0) (p : X → Bool) (xs : List X) → All P xs → (y : X) → find p xs ≡ Some y → P y
found_has P p [] h y e = absurd cc
found_has P p (x ∷ xs) h y e = found_step P p x xs (p x) (h 0 x (omega arith)) (found_has P p xs (All-tail P x xs h)) y e

limit_by : (o : Option SpeedSign) (z : ℤ) → ((x : SpeedSign) → o ≡ Some x → IsSign x) → option_map (λ (s : SpeedSign). s.limit) o ≡ Some z → pos 0 ≤ℤ z
limit_by (Some x) z h e =
    let same : x.limit ≡ z = cc in
    subst (λ (n : ℤ). pos 0 ≤ℤ n) same (h x refl).low
limit_by None z h e = absurd cc

limit_low : (signs : List SpeedSign) → All IsSign signs → (id : ℕ) (z : ℤ) → limit_with signs id ≡ Some z → pos 0 ≤ℤ z
unfolding limit_with
limit_low signs h id z e = limit_by (find (sign_has_id id) signs) z (λ x f. found_has IsSign (sign_has_id id) signs h x f) e

lesser_low : (a z : ℤ) → pos 0 ≤ℤ a → pos 0 ≤ℤ z → pos 0 ≤ℤ int_min a z
lesser_low a z h k = omega (arith, ints, clamps, h, k)

some_low : (h : ℕ → Option ℤ) (k : ℕ) (ids : List ℕ) (a : ℤ) (o : Option ℤ) → pos 0 ≤ℤ a → ((z : ℤ) → o ≡ Some z → pos 0 ≤ℤ z)
    → ((c : ℤ) → pos 0 ≤ℤ c → pos 0 ≤ℤ fold int_min c (filter_map h ids)) → pos 0 ≤ℤ fold int_min a (cons_option o (filter_map h ids))
some_low h k ids a (Some z) low each rest = rest (int_min a z) (lesser_low a z low (each z refl))
some_low h k ids a None low each rest = rest a low

kept_low : (h : ℕ → Option ℤ) → ((k : ℕ) (z : ℤ) → h k ≡ Some z → pos 0 ≤ℤ z) → (ids : List ℕ) (a : ℤ) → pos 0 ≤ℤ a → pos 0 ≤ℤ fold int_min a (filter_map h ids)
kept_low h each [] a low = low
kept_low h each (k ∷ ids) a low = some_low h k ids a (h k) low (each k) (λ c lower. kept_low h each ids c lower)

all_low : (g : ℕ → ℤ) → ((k : ℕ) → pos 0 ≤ℤ g k) → (ks : List ℕ) (a : ℤ) → pos 0 ≤ℤ a → pos 0 ≤ℤ fold int_min a (map g ks)
all_low g each [] a low = low
all_low g each (k ∷ ks) a low = all_low g each ks (int_min a (g k)) (lesser_low a (g k) low (each k))

some_speed : pos 0 ≤ℤ pos MAX_SPEED
some_speed = omega (arith, ints)

limit_in_low : (s : Signals) (u : SignalUse) → All IsSign s.signs → pos 0 ≤ℤ limit_in s u
unfolding limit_in
limit_in_low s u h = kept_low (limit_with s.signs) (limit_low s.signs h) u.signs (pos MAX_SPEED) some_speed

speed_limit_in : (lanes : List Lane) (s : Signals) (p : Point) → All IsSign s.signs → IsIn (record { low = pos 0; high = pos MAX_SPEED }) (speed_limit lanes s p)
unfolding speed_limit
speed_limit_in lanes s p h = record {
  above = all_low (λ place. limit_in s (use_of s place)) (λ place. limit_in_low s (use_of s place) h) (holding lanes p) (pos MAX_SPEED) some_speed;
  below = (fold-int_min_bounds (pos MAX_SPEED) (map (λ place. limit_in s (use_of s place)) (holding lanes p)) _ refl).0;
}

-- ---- lights

red_few : (lanes : List Lane) (s : Signals) (p : Point) (tick : ℕ) → red lanes s p tick ≤ length lanes
unfolding red
red_few lanes s p tick =
    let places = range_with_len 0 (length lanes) in
    omega (
      arith,
      count_by-le-length (λ place. has_red s tick (use_of s place)) (holding lanes p),
      length-filter (λ place. holds_at lanes place p) places,
      count_by-le-length (λ place. holds_at lanes place p) places,
      length-range_with_len 0 (length lanes),
    )

cycle_short : (l : Light) → IsLight l → cycle l.phases ≤ MAX_WAIT
cycle_short l h =
    let each : sum_by (λ (p : Phase). p.ticks) l.phases ≤ length l.phases * MAX_PHASE_TICKS = sum_by-le (λ (p : Phase). p.ticks) MAX_PHASE_TICKS l.phases (λ k d lt. (h.phases k d lt).short) in
    omega (arith, each, h.few)

place_short : (p : ℕ → Bool) (T : ℕ) (o : Option ℕ) → T ≤ MAX_WAIT → position p (range_with_len 0 T) ≡ o → option_map_or (λ n. n) o MAX_WAIT ≤ MAX_WAIT
place_short p T None short e = omega arith
place_short p T (Some n) short e =
    let there = position-Some p (range_with_len 0 T) n 0 e in
    omega (arith, there.0, length-range_with_len 0 T, short)

green_short : (l : Light) (tick : ℕ) → IsLight l → green_in l tick ≤ MAX_WAIT
unfolding green_in
green_short l tick h =
    place_short (λ n. not (is_red l (tick + n))) (cycle l.phases) (position (λ n. not (is_red l (tick + n))) (range_with_len 0 (cycle l.phases))) (cycle_short l h) refl

is_there : (lights : List Light) (place : ℕ) (l : Light) → All IsLight lights → slice_get lights place ≡ Some l → IsLight l
is_there lights place l h e =
    elim (slice_get_cases lights place).1 [
      | inl there ↦
          let both : Some there.0 ≡ Some l = sym there.2 ∙ e in
          let same : there.0 ≡ l = cc in
          subst IsLight (there.3 ∙ same) (h place there.0 there.1)
      | inr past ↦ let both : None ≡ Some l = sym past.1 ∙ e in absurd (cc)
    ]

green_by : (tick : ℕ) (o : Option Light) → ((l : Light) → o ≡ Some l → IsLight l) → option_map_or (λ (l : Light). green_in l tick) o 0 ≤ MAX_WAIT
green_by tick None h = omega arith
green_by tick (Some l) h = green_short l tick (h l refl)

green_there_short : (lights : List Light) (tick place : ℕ) → All IsLight lights → green_in_there lights tick place ≤ MAX_WAIT
unfolding green_in_there
green_there_short lights tick place h = green_by tick (slice_get lights place) (λ l e. is_there lights place l h e)

-- ---- bounds

one_in : (b : Bool) → IsIn (record { low = pos 0; high = pos 1 }) (one_if b)
one_in true = record { above = omega (arith, ints); below = omega (arith, ints) }
one_in false = record { above = omega (arith, ints); below = omega (arith, ints) }

number_in : (n most : ℕ) → n ≤ most → IsIn (record { low = pos 0; high = pos most }) (pos n)
number_in n most h = record { above = omega (arith, ints); below = omega (arith, ints, h) }

pub value_within : (lanes : List Lane) (ids : List ℕ) (s : Signals) → length lanes ≤ MAX_LANELETS → AreSignals ids s → (row : SignalFeature) (step : Step)
    → IsIn (signal_bounds row) (signal_value lanes s row step)
value_within lanes ids s few h feature.SpeedLimit step = speed_limit_in lanes s (center step) h.signs
value_within lanes ids s few h feature.Red step =
    number_in (red lanes s (center step) step.tick) MAX_LANELETS (omega (arith, few, red_few lanes s (center step) step.tick))
value_within lanes ids s few h (feature.Light place) step = one_in (is_red_there s.lights step.tick place)
value_within lanes ids s few h (feature.GreenIn place) step =
    number_in (green_in_there s.lights step.tick place) MAX_WAIT (green_there_short s.lights step.tick place h.lights)

pub record IsBounded (i : Span) : Type 0 where
  pub least : neg_ℤ MAX_BOUND ≤ℤ i.low
  pub ordered : i.low ≤ℤ i.high
  pub most : i.high ≤ℤ MAX_BOUND

pub bounds_bounded : (row : SignalFeature) → IsBounded (signal_bounds row)
bounds_bounded feature.SpeedLimit = record { least = omega (arith, ints); ordered = omega (arith, ints); most = omega (arith, ints) }
bounds_bounded feature.Red = record { least = omega (arith, ints); ordered = omega (arith, ints); most = omega (arith, ints) }
bounds_bounded (feature.Light place) = record { least = omega (arith, ints); ordered = omega (arith, ints); most = omega (arith, ints) }
bounds_bounded (feature.GreenIn place) = record { least = omega (arith, ints); ordered = omega (arith, ints); most = omega (arith, ints) }
