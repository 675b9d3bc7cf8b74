-- What holds a point is among what is asked about it.
use Rattle.std.proofs.Common.{◌≡◌, ◌∙◌, ℕ, ◌+◌, ◌/◌, ◌<◌, ◌≤◌, Bool, true, false, cond, List, [], ◌∷◌, map, length, refl, sym, ap, arith, None, Some, ℤ, ◌≤ℤ◌, ◌-ℤ◌}
use Rattle.std.specs.Prelude.{Option, count_by, slice_get, unsigned_abs, nat_le, ◌&&◌, ◌||◌, not}
use Rattle.std.specs.Int.{int_max}
use Rattle.std.specs.Prelude.{min, max}
use Rattle.std.specs.List.{filter, range_with_len, list_any, list_all}
use Rattle.std.specs.Option.{option_map, option_map_or}
use Rattle.std.proofs.lemmas.Int.{ints, clamps}
use Rattle.std.proofs.lemmas.Bool.{and_from}
use Rattle.std.proofs.lemmas.Bool.Decides.{nat_tests}
use Rattle.std.proofs.lemmas.Nat.{le-div}
use Rattle.std.proofs.Math.Nat.{div-mul-le_self}
use Rattle.std.proofs.lemmas.List.{length-map, get_or-map}
use Rattle.std.proofs.lemmas.List.FromFn.{length-map-range_with_len, get_or-map-range_with_len, fill_by_all}
use Rattle.std.proofs.lemmas.List.Folds.{fold-map, list_all-map}
use Rattle.std.proofs.lemmas.List.Sums.{length-filter}
use Rattle.std.proofs.lemmas.Option.{slice_get-map, slice_get-get_or}
use Rattle.fixed_geometry.specs.declared.point.Point.{Point}
use Rattle.fixed_geometry.specs.Boxes.{bounds}
use Rattle.fixed_geometry.proofs.Inside.{point_in-bounds}
use Rattle.lanelet_network.specs.declared.axis.Axis.{Axis}
use Rattle.lanelet_network.specs.declared.axis.Reach.{Reach}
use Rattle.lanelet_network.specs.declared.grid.Grid.{Grid}
use Rattle.lanelet_network.specs.Lanes.{Lane, holds, holds_at, opposes, opposes_if_holding, opposes_at}
use Rattle.lanelet_network.specs.Strips.{strip, reach, is_reached, does_reach, reaching}
use Rattle.lanelet_network.specs.LaneReach.{reach_in_x, reach_in_y}
use Rattle.lanelet_network.specs.Cells.{cells_of, columns_of, cell_in, places_in, places_at, IsGridOf, AreAsked}
use Rattle.lanelet_network.proofs.Ids.{nowhere}

-- ---- strips

div_rises : (m n k : ℕ) → 0 < k → m ≤ n → m / k ≤ n / k
div_rises m n k some h = le-div (m / k) n k some (omega (arith, div-mul-le_self m k, h))

offset_rises : (low y z : ℤ) → y ≤ℤ z → unsigned_abs (int_max y low -ℤ low) ≤ unsigned_abs (int_max z low -ℤ low)
offset_rises low y z h = omega (arith, ints, clamps, h)

least_rises : (m n last : ℕ) → m ≤ n → min m last ≤ min n last
least_rises m n last h = omega (arith, h)

some_side : (side : ℕ) → 0 < max side 1
some_side side = omega arith

strip_rises : (axis : Axis) (y z : ℤ) → y ≤ℤ z → strip axis y ≤ strip axis z
unfolding strip
strip_rises axis y z h =
    least_rises _ _ axis.last (div_rises _ _ (max axis.side 1) (some_side axis.side) (offset_rises axis.low y z h))

strip_within : (axis : Axis) (z : ℤ) → strip axis z < axis.last + 1
unfolding strip
strip_within axis z = omega arith

le_test : (m n : ℕ) → m ≤ n → nat_le m n ≡ true
le_test m n h = grind (arith, nat_tests)

-- the strip of what lies in a range is one that the range touches
in_reach : (axis : Axis) (low z high : ℤ) → low ≤ℤ z → z ≤ℤ high → is_reached (strip axis z) (reach axis low high) ≡ true
unfolding is_reached reach
in_reach axis low z high h k = and_from _ _ (le_test (strip axis low) (strip axis z) (strip_rises axis low z h)) (le_test (strip axis z) (strip axis high) (strip_rises axis z high k))

-- ---- what is left out by a filter

pub record Implies (p q : ℕ → Bool) : Type 0 where
  pub each : (k : ℕ) → p k ≡ true → q k ≡ true

kept_step : (b c : Bool) (k : ℕ) (left right : List ℕ) (p : ℕ → Bool) → p k ≡ b → (b ≡ true → c ≡ true) → filter p left ≡ filter p right → filter p (cond c (k ∷ left) left) ≡ cond b (k ∷ filter p right) (filter p right)
kept_step true true k left right p e h same = rw e (ap (λ (rest : List ℕ). k ∷ rest) same)
kept_step true false k left right p e h same = let no = h refl in absurd (cc)
kept_step false true k left right p e h same = rw e same
kept_step false false k left right p e h same = same

pub filter_kept : (p q : ℕ → Bool) → Implies p q → (ks : List ℕ) → filter p (filter q ks) ≡ filter p ks
filter_kept p q h [] = refl
filter_kept p q h (k ∷ ks) = kept_step (p k) (q k) k (filter q ks) ks p refl (h.each k) (filter_kept p q h ks)

any_step : (b c : Bool) (k : ℕ) (left right : List ℕ) (p : ℕ → Bool) → p k ≡ b → (b ≡ true → c ≡ true) → list_any p left ≡ list_any p right → list_any p (cond c (k ∷ left) left) ≡ (b || list_any p right)
any_step true true k left right p e h same = rw e refl
any_step true false k left right p e h same = let no = h refl in absurd (cc)
any_step false true k left right p e h same = rw e same
any_step false false k left right p e h same = same

pub any_kept : (p q : ℕ → Bool) → Implies p q → (ks : List ℕ) → list_any p (filter q ks) ≡ list_any p ks
any_kept p q h [] = refl
any_kept p q h (k ∷ ks) = any_step (p k) (q k) k (filter q ks) ks p refl (h.each k) (any_kept p q h ks)

all_step : (b c : Bool) (k : ℕ) (left right : List ℕ) (f : ℕ → Bool) → f k ≡ b → (b ≡ false → c ≡ true) → list_all f left ≡ list_all f right → list_all f (cond c (k ∷ left) left) ≡ (b && list_all f right)
all_step true true k left right f e h same = rw e same
all_step true false k left right f e h same = same
all_step false true k left right f e h same = rw e refl
all_step false false k left right f e h same = let no = h refl in absurd (cc)

pub all_kept : (f q : ℕ → Bool) → ((k : ℕ) → f k ≡ false → q k ≡ true) → (ks : List ℕ) → list_all f (filter q ks) ≡ list_all f ks
all_kept f q h [] = refl
all_kept f q h (k ∷ ks) = all_step (f k) (q k) k (filter q ks) ks f refl (h k) (all_kept f q h ks)

-- ---- the lanelets by their places

places_are : (lanes : List Lane) → map (slice_get lanes) (range_with_len 0 (length lanes)) ≡ map Some lanes
places_are lanes =
    sym (fill_by_all (slice_get lanes) (map Some lanes) (length lanes) None (length-map lanes Some) (λ k h. get_or-map Some lanes k nowhere None h ∙ sym (slice_get-get_or lanes k nowhere h)))

any_map : {X Y : Type 0} (g : Y → Bool) (f : X → Y) (xs : List X) → list_any g (map f xs) ≡ list_any (λ x. g (f x)) xs
any_map g f [] = refl
any_map g f (x ∷ xs) = ap (λ (b : Bool). g (f x) || b) (any_map g f xs)

count_map : {X Y : Type 0} (g : Y → Bool) (f : X → Y) (xs : List X) → count_by g (map f xs) ≡ count_by (λ x. g (f x)) xs
count_map g f xs = fold-map (λ a y. a + cond (g y) 1 0) f 0 xs

any_of_places : (g : Option Lane → Bool) (lanes : List Lane) → list_any (λ k. g (slice_get lanes k)) (range_with_len 0 (length lanes)) ≡ list_any (λ lane. g (Some lane)) lanes
any_of_places g lanes = sym (any_map g (slice_get lanes) (range_with_len 0 (length lanes))) ∙ ap (list_any g) (places_are lanes) ∙ any_map g Some lanes

all_of_places : (g : Option Lane → Bool) (lanes : List Lane) → list_all (λ k. g (slice_get lanes k)) (range_with_len 0 (length lanes)) ≡ list_all (λ lane. g (Some lane)) lanes
all_of_places g lanes = sym (list_all-map g (slice_get lanes) (range_with_len 0 (length lanes))) ∙ ap (list_all g) (places_are lanes) ∙ list_all-map g Some lanes

count_of_places : (g : Option Lane → Bool) (lanes : List Lane) → count_by (λ k. g (slice_get lanes k)) (range_with_len 0 (length lanes)) ≡ count_by (λ lane. g (Some lane)) lanes
count_of_places g lanes = sym (count_map g (slice_get lanes) (range_with_len 0 (length lanes))) ∙ ap (count_by g) (places_are lanes) ∙ count_map g Some lanes

-- ---- cells

nth_cell : {X : Type 0} (f : ℕ → X) (n k : ℕ) → k < n → slice_get (map f (range_with_len 0 n)) k ≡ Some (f k)
nth_cell f n k h =
    slice_get-get_or (map f (range_with_len 0 n)) k (f k) (omega (arith, h, length-map-range_with_len f 0 n)) ∙ ap Some (get_or-map-range_with_len f 0 n k k (f k) h (omega arith))

looked_up : (in_x in_y : List Reach) (columns rows : ℕ) (places : List ℕ) (column row : ℕ) → column < columns → row < rows → places_in (columns_of in_x in_y columns rows places) column row ≡ reaching in_y row (reaching in_x column places)
looked_up in_x in_y columns rows places column row h k =
    ap (λ (o : Option (List (List ℕ))). option_map_or (λ (cells : List (List ℕ)). cell_in cells row) o []) (nth_cell (λ number. cells_of in_y rows (reaching in_x number places)) columns column h)
    ∙ ap (λ (o : Option (List ℕ)). option_map_or (λ (held : List ℕ). held) o []) (nth_cell (λ number. reaching in_y number (reaching in_x column places)) rows row k)

held_in_x : (axis : Axis) (p : Point) (o : Option Lane) → option_map_or (holds p) o false ≡ true → option_map_or (is_reached (strip axis p.x)) (option_map (reach_in_x axis) o) false ≡ true
unfolding reach_in_x
held_in_x axis p None h = h
held_in_x axis p (Some lane) h =
    let inside = point_in-bounds p lane.corners h in
    in_reach axis (bounds lane.corners).low.x p.x (bounds lane.corners).high.x inside.left inside.right

held_in_y : (axis : Axis) (p : Point) (o : Option Lane) → option_map_or (holds p) o false ≡ true → option_map_or (is_reached (strip axis p.y)) (option_map (reach_in_y axis) o) false ≡ true
unfolding reach_in_y
held_in_y axis p None h = h
held_in_y axis p (Some lane) h =
    let inside = point_in-bounds p lane.corners h in
    in_reach axis (bounds lane.corners).low.y p.y (bounds lane.corners).high.y inside.below inside.above

holding_in_x : (lanes : List Lane) (axis : Axis) (p : Point) → Implies (λ k. holds_at lanes k p) (does_reach (map (reach_in_x axis) lanes) (strip axis p.x))
unfolding holds_at does_reach
holding_in_x lanes axis p = record { each = λ k h. rw (slice_get-map (reach_in_x axis) lanes k) (held_in_x axis p (slice_get lanes k) h) }

holding_in_y : (lanes : List Lane) (axis : Axis) (p : Point) → Implies (λ k. holds_at lanes k p) (does_reach (map (reach_in_y axis) lanes) (strip axis p.y))
unfolding holds_at does_reach
holding_in_y lanes axis p = record { each = λ k h. rw (slice_get-map (reach_in_y axis) lanes k) (held_in_y axis p (slice_get lanes k) h) }

-- the point's cell has the places of all lanelets that hold the point
pub cell_is_asked : (lanes : List Lane) (grid : Grid) (p : Point) (places : List ℕ) → IsGridOf lanes grid → places ≡ places_at grid p → AreAsked lanes p places
unfolding places_at
cell_is_asked lanes grid p places g e =
    let column = strip grid.in_x p.x in
    let row = strip grid.in_y p.y in
    let in_x = map (reach_in_x grid.in_x) lanes in
    let in_y = map (reach_in_y grid.in_y) lanes in
    let all = range_with_len 0 (length lanes) in
    let held : ℕ → Bool = λ k. holds_at lanes k p in
    let found : places_in grid.columns.items column row ≡ reaching in_y row (reaching in_x column all) = ap (λ (columns : List (List (List ℕ))). places_in columns column row) g.cells ∙ looked_up in_x in_y (grid.in_x.last + 1) (grid.in_y.last + 1) all column row (strip_within grid.in_x p.x) (strip_within grid.in_y p.y) in
    record {
      all = ap (filter held) (e ∙ found) ∙ filter_kept held (does_reach in_y row) (holding_in_y lanes grid.in_y p) (reaching in_x column all) ∙ filter_kept held (does_reach in_x column) (holding_in_x lanes grid.in_x p) all;
    }

-- ---- answers

itself : (p : ℕ → Bool) → Implies p p
itself p = record { each = λ k h. h }

pub any_asked : (lanes : List Lane) (p : Point) (places : List ℕ) → AreAsked lanes p places → list_any (λ place. holds_at lanes place p) places ≡ list_any (holds p) lanes
unfolding holds_at
any_asked lanes p places asked =
    let held : ℕ → Bool = λ k. holds_at lanes k p in
    let all = range_with_len 0 (length lanes) in
    sym (any_kept held held (itself held) places) ∙ ap (list_any held) asked.all ∙ any_kept held held (itself held) all ∙ any_of_places (λ o. option_map_or (holds p) o false) lanes

pub count_asked : (lanes : List Lane) (p : Point) (places : List ℕ) → AreAsked lanes p places → count_by (λ place. holds_at lanes place p) places ≡ count_by (holds p) lanes
unfolding holds_at
count_asked lanes p places asked =
    let held : ℕ → Bool = λ k. holds_at lanes k p in
    let all = range_with_len 0 (length lanes) in
    sym (length-filter held places) ∙ ap length asked.all ∙ length-filter held all ∙ count_of_places (λ o. option_map_or (holds p) o false) lanes

opposed_holds : (holding opposing : Bool) → (not holding || opposing) ≡ false → holding ≡ true
opposed_holds true opposing h = refl
opposed_holds false opposing h = absurd (cc)

opposing : (p ahead : Point) (o : Option Lane) → option_map_or (opposes_if_holding p ahead) o true ≡ false → option_map_or (holds p) o false ≡ true
unfolding opposes_if_holding
opposing p ahead None h = absurd (cc)
opposing p ahead (Some lane) h = opposed_holds (holds p lane) (opposes p ahead lane) h

pub all_asked : (lanes : List Lane) (p ahead : Point) (places : List ℕ) → AreAsked lanes p places → list_all (λ place. opposes_at lanes p ahead place) places ≡ list_all (opposes_if_holding p ahead) lanes
unfolding holds_at opposes_at
all_asked lanes p ahead places asked =
    let held : ℕ → Bool = λ k. holds_at lanes k p in
    let opposes : ℕ → Bool = λ k. opposes_at lanes p ahead k in
    let all = range_with_len 0 (length lanes) in
    let holding : (k : ℕ) → opposes k ≡ false → held k ≡ true = λ k h. opposing p ahead (slice_get lanes k) h in
    sym (all_kept opposes held holding places) ∙ ap (list_all opposes) asked.all ∙ all_kept opposes held holding all ∙ all_of_places (λ o. option_map_or (opposes_if_holding p ahead) o true) lanes
