-- The least limit and the count of red lights, place by place.
use Rattle.std.proofs.Common.{◌≡◌, ◌∙◌, ℕ, suc, ◌+◌, ◌<◌, ◌≤◌, Bool, true, false, cond, ℤ, pos, ◌≤ℤ◌, List, [], ◌∷◌, ◌++◌, length, map, get_or, take, Option, Some, None, refl, sym, ap, arith}
use Rattle.std.specs.Prelude.{count_by, ◌&&◌, slice_index_or}
use Rattle.std.specs.Int.{int_min}
use Rattle.std.specs.List.{filter, filter_map, cons_option, fold, list_any, range_with_len}
use Rattle.std.proofs.lemmas.Int.{ints, clamps}
use Rattle.std.proofs.lemmas.List.{take_more, length-map}
use Rattle.std.proofs.lemmas.List.Elements.{filter_map-append}
use Rattle.std.proofs.lemmas.List.FromFn.{map-range_with_len_more}
use Rattle.std.proofs.lemmas.List.Sums.{fold-append, fold_push, sum_by-cons, sum_by_push}
use Rattle.fixed_geometry.specs.declared.point.Point.{Point}
use Rattle.lanelet_network.specs.Lanes.{Lane, holds_at, lane_ids}
use Rattle.scenario_model.specs.declared.limits.TheConstants.{MAX_SPEED}
use Rattle.signal_features.specs.Features.{least, limit_with, is_red_with, limit_in, has_red, use_of, limit_at, is_red_place, holding, speed_limit, red}
use Rattle.signal_features.specs.declared.signals.SignalUse.{SignalUse}
use Rattle.signal_features.specs.declared.signals.Signals.{Signals}

-- ---- a lanelet

pub least_more : (h : ℕ → Option ℤ) (ids : List ℕ) (i : ℕ) → i < length ids
    → least (filter_map h (take (i + 1) ids)) ≡ fold int_min (least (filter_map h (take i ids))) (cons_option (h (get_or ids i 0)) [])
least_more h ids i lt =
    ap (λ some. least (filter_map h some)) (take_more ids i 0 lt) ∙ ap least (filter_map-append h (take i ids) (get_or ids i 0 ∷ []))
    ∙ fold-append int_min (pos MAX_SPEED) (filter_map h (take i ids)) (cons_option (h (get_or ids i 0)) [])

empty : (xs : List ℕ) → length xs ≡ 0 → xs ≡ []
empty [] e = refl
empty (x ∷ xs) e = absurd (omega (arith, e))

no_limit : (s : Signals) (u : SignalUse) → length u.signs ≡ 0 → limit_in s u ≡ pos MAX_SPEED
unfolding limit_in
no_limit s u e = ap (λ ids. least (filter_map (limit_with s.signs) ids)) (empty u.signs e)

either_way : (b : Bool) (z : ℤ) → cond b z z ≡ z
either_way true z = refl
either_way false z = refl

pub no_signs : (lanes : List Lane) (s : Signals) (p : Point) (place : ℕ) → length (use_of s place).signs ≡ 0 → limit_at lanes s p place ≡ pos MAX_SPEED
unfolding limit_at
no_signs lanes s p place e = rw (no_limit s (use_of s place) e) (either_way (holds_at lanes place p) (pos MAX_SPEED))

pub limit_elsewhere : (lanes : List Lane) (s : Signals) (p : Point) (place : ℕ) → holds_at lanes place p ≡ false → limit_at lanes s p place ≡ pos MAX_SPEED
unfolding limit_at
limit_elsewhere lanes s p place e = rw e refl

pub limit_here : (lanes : List Lane) (s : Signals) (p : Point) (place : ℕ) → holds_at lanes place p ≡ true → limit_at lanes s p place ≡ limit_in s (use_of s place)
unfolding limit_at
limit_here lanes s p place e = rw e refl

none_red : (s : Signals) (tick : ℕ) (u : SignalUse) → length u.lights ≡ 0 → has_red s tick u ≡ false
unfolding has_red
none_red s tick u e = ap (λ ids. list_any (is_red_with s.lights tick) ids) (empty u.lights e)

and_false : (b : Bool) → (b && false) ≡ false
and_false true = refl
and_false false = refl

pub no_lights : (lanes : List Lane) (s : Signals) (p : Point) (tick place : ℕ) → length (use_of s place).lights ≡ 0 → is_red_place lanes s p tick place ≡ false
unfolding is_red_place
no_lights lanes s p tick place e = rw (none_red s tick (use_of s place) e) (and_false (holds_at lanes place p))

pub red_elsewhere : (lanes : List Lane) (s : Signals) (p : Point) (tick place : ℕ) → holds_at lanes place p ≡ false → is_red_place lanes s p tick place ≡ false
unfolding is_red_place
red_elsewhere lanes s p tick place e = rw e refl

pub red_here : (lanes : List Lane) (s : Signals) (p : Point) (tick place : ℕ) → holds_at lanes place p ≡ true → is_red_place lanes s p tick place ≡ has_red s tick (use_of s place)
unfolding is_red_place
red_here lanes s p tick place e = rw e refl

-- ---- all places

map_itself : (xs : List ℕ) → map (λ k. k) xs ≡ xs
map_itself [] = refl
map_itself (x ∷ xs) = ap (λ ys. x ∷ ys) (map_itself xs)

places_more : (n : ℕ) → range_with_len 0 (n + 1) ≡ range_with_len 0 n ++ n ∷ []
places_more n = sym (map_itself (range_with_len 0 (n + 1))) ∙ map-range_with_len_more (λ k. k) 0 n n (omega arith) ∙ ap (λ ks. ks ++ n ∷ []) (map_itself (range_with_len 0 n))

map_push : {X Y : Type 0} (g : X → Y) (xs : List X) (y : X) → map g (xs ++ y ∷ []) ≡ map g xs ++ g y ∷ []
map_push g [] y = refl
map_push g (x ∷ xs) y = ap (λ ys. g x ∷ ys) (map_push g xs y)

pub least_of_more : (g : ℕ → ℤ) (n : ℕ) → least (map g (range_with_len 0 (n + 1))) ≡ int_min (least (map g (range_with_len 0 n))) (g n)
least_of_more g n =
    ap (λ ks. least (map g ks)) (places_more n) ∙ ap least (map_push g (range_with_len 0 n) n) ∙ fold_push int_min (pos MAX_SPEED) (map g (range_with_len 0 n)) (g n)

pub count_more : (f : ℕ → Bool) (n : ℕ) → count_by f (range_with_len 0 (n + 1)) ≡ count_by f (range_with_len 0 n) + cond (f n) 1 0
count_more f n = ap (count_by f) (places_more n) ∙ sum_by_push (λ k. cond (f k) 1 0) (range_with_len 0 n) n

same_least : (a : ℤ) (most : ℤ) → a ≤ℤ most → int_min a most ≡ a
same_least a most h = omega (arith, ints, clamps, h)

still_low : (a b most : ℤ) → a ≤ℤ most → int_min a b ≤ℤ most
still_low a b most h = omega (arith, ints, clamps, h)

kept_step : (h : ℕ → Bool) (g : ℕ → ℤ) (a most : ℤ) (k : ℕ) (ks : List ℕ) (b : Bool) → a ≤ℤ most
    → ((c : ℤ) → c ≤ℤ most → fold int_min c (map g (filter h ks)) ≡ fold int_min c (map (λ j. cond (h j) (g j) most) ks))
    → fold int_min a (map g (cond b (k ∷ filter h ks) (filter h ks))) ≡ fold int_min (int_min a (cond b (g k) most)) (map (λ j. cond (h j) (g j) most) ks)
kept_step h g a most k ks true low rest = rest (int_min a (g k)) (still_low a (g k) most low)
kept_step h g a most k ks false low rest =
    rest a low ∙ ap (λ c. fold int_min c (map (λ j. cond (h j) (g j) most) ks)) (sym (same_least a most low))

-- the least of what is kept by a test, none of it more than the most, and of all where the most
-- stands for the others
kept_least : (h : ℕ → Bool) (g : ℕ → ℤ) (a most : ℤ) (ks : List ℕ) → a ≤ℤ most
    → fold int_min a (map g (filter h ks)) ≡ fold int_min a (map (λ k. cond (h k) (g k) most) ks)
kept_least h g a most [] low = refl
kept_least h g a most (k ∷ ks) low = kept_step h g a most k ks (h k) low (λ c lower. kept_least h g c most ks lower)

count_step : (h q : ℕ → Bool) (k : ℕ) (ks : List ℕ) (b : Bool) → count_by q (filter h ks) ≡ count_by (λ j. h j && q j) ks
    → count_by q (cond b (k ∷ filter h ks) (filter h ks)) ≡ cond (b && q k) 1 0 + count_by (λ j. h j && q j) ks
count_step h q k ks true rest = sum_by-cons (λ j. cond (q j) 1 0) k (filter h ks) ∙ ap (λ n. cond (q k) 1 0 + n) rest
count_step h q k ks false rest = rest ∙ (omega arith)

count_kept : (h q : ℕ → Bool) (ks : List ℕ) → count_by q (filter h ks) ≡ count_by (λ k. h k && q k) ks
count_kept h q [] = refl
count_kept h q (k ∷ ks) = count_step h q k ks (h k) (count_kept h q ks) ∙ sym (sum_by-cons (λ j. cond (h j && q j) 1 0) k ks)

-- there is a use for each lanelet
pub as_many : (lanes : List Lane) (s : Signals) → map (λ (u : SignalUse). u.lanelet) s.uses ≡ lane_ids lanes → length s.uses ≡ length lanes
as_many lanes s e = sym (length-map s.uses (λ (u : SignalUse). u.lanelet)) ∙ ap length e ∙ length-map lanes (λ (l : Lane). l.id)

pub speed_limit_is : (lanes : List Lane) (s : Signals) (p : Point) → map (λ (u : SignalUse). u.lanelet) s.uses ≡ lane_ids lanes
    → least (map (limit_at lanes s p) (range_with_len 0 (length s.uses))) ≡ speed_limit lanes s p
unfolding speed_limit limit_at
speed_limit_is lanes s p e =
    ap (λ n. least (map (limit_at lanes s p) (range_with_len 0 n))) (as_many lanes s e)
    ∙ sym (kept_least (λ place. holds_at lanes place p) (λ place. limit_in s (use_of s place)) (pos MAX_SPEED) (pos MAX_SPEED) (range_with_len 0 (length lanes)) (omega (arith, ints)))

pub red_is : (lanes : List Lane) (s : Signals) (p : Point) (tick : ℕ) → map (λ (u : SignalUse). u.lanelet) s.uses ≡ lane_ids lanes
    → count_by (is_red_place lanes s p tick) (range_with_len 0 (length s.uses)) ≡ red lanes s p tick
unfolding red is_red_place
red_is lanes s p tick e =
    ap (λ n. count_by (is_red_place lanes s p tick) (range_with_len 0 n)) (as_many lanes s e)
    ∙ sym (count_kept (λ place. holds_at lanes place p) (λ place. has_red s tick (use_of s place)) (range_with_len 0 (length lanes)))
