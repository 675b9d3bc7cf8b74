-- What traffic and lanes answer lies in bounds.
use Rattle.std.proofs.Common.{◌≡◌, ℕ, ◌≤◌, Bool, true, false, cond, ℤ, pos, ◌≤ℤ◌, List, [], ◌∷◌}
use Rattle.std.proofs.Common.{◌++◌, map, length, refl, sym, subst, arith, Option, None, Some}
use Rattle.std.specs.Prelude.{int_lt, int_le, unsigned_abs, ◌&&◌}
use Rattle.std.specs.List.{fold, flat_map}
use Rattle.std.specs.Int.{int_min}
use Rattle.std.proofs.lemmas.Int.{ints, clamps, fold-int_min_bounds}
use Rattle.std.proofs.lemmas.List.Concat.{flat_map-cons}
use Rattle.std.proofs.lemmas.List.Sums.{count_by-le-length}
use Rattle.fixed_geometry.specs.declared.point.Point.{Point}
use Rattle.fixed_geometry.specs.declared.point.Box2.{Box2}
use Rattle.fixed_geometry.specs.Boxes.{bounds, box_gap}
use Rattle.fixed_geometry.specs.Turning.{direction}
use Rattle.scenario_model.specs.declared.obstacle.Pose.{Pose}
use Rattle.moving_obstacles.specs.declared.track.Track.{Track}
use Rattle.moving_obstacles.specs.Nearness.{is_met, gaps, along, side, is_ahead, distances, least}
use Rattle.moving_obstacles.specs.Tracks.{shapes_in, pose_in, meeting_in, nearest_gap_in}
use Rattle.moving_obstacles.specs.Tracks.{headway_in}
use Rattle.moving_obstacles.specs.declared.limits.TheConstants.{MAX_DISTANCE}

-- no number is below 0
abbrev NotBelow : List ℤ → Type 0
NotBelow [] = Unit {0}
NotBelow (n ∷ ns) = (pos 0 ≤ℤ n) × NotBelow ns

not_below-append : (ms ns : List ℤ) → NotBelow ms → NotBelow ns → NotBelow (ms ++ ns)
not_below-append [] ns h k = k
not_below-append (m ∷ ms) ns h k = (h.0, not_below-append ms ns h.1 k)

not_below-flat_map : {X : Type 0} (f : X → List ℤ) → ((x : X) → NotBelow (f x)) → (xs : List X)
    → NotBelow (flat_map f xs)
not_below-flat_map f each [] = tt
not_below-flat_map f each (x ∷ xs) =
    subst (λ (ns : List ℤ). NotBelow ns) (sym (flat_map-cons f x xs))
    (not_below-append (f x) (flat_map f xs) (each x) (not_below-flat_map f each xs))

not_below-map : {X : Type 0} (f : X → ℤ) → ((x : X) → pos 0 ≤ℤ f x) → (xs : List X)
    → NotBelow (map f xs)
not_below-map f each [] = tt
not_below-map f each (x ∷ xs) = (each x, not_below-map f each xs)

lesser_not_below : (a n : ℤ) → pos 0 ≤ℤ a → pos 0 ≤ℤ n → pos 0 ≤ℤ int_min a n
lesser_not_below a n h k = omega (arith, ints, clamps, h, k)

fold_not_below : (a : ℤ) (ns : List ℤ) → pos 0 ≤ℤ a → NotBelow ns → pos 0 ≤ℤ fold int_min a ns
fold_not_below a [] h k = h
fold_not_below a (n ∷ ns) h k = fold_not_below (int_min a n) ns (lesser_not_below a n h k.0) k.1

least_not_below : (ns : List ℤ) → NotBelow ns → pos 0 ≤ℤ least ns
unfolding least
least_not_below ns h = fold_not_below MAX_DISTANCE ns (omega (arith, ints)) h

least_most : (ns : List ℤ) → least ns ≤ℤ MAX_DISTANCE
unfolding least
least_most ns = (fold-int_min_bounds MAX_DISTANCE ns (fold int_min MAX_DISTANCE ns) refl).0

gap_not_below : (a b : Box2) → pos 0 ≤ℤ box_gap a b
unfolding box_gap
gap_not_below a b = omega (arith, ints, clamps)

gaps_not_below : (ego : Box2) (shapes : Option (List (List Point))) → NotBelow (gaps ego shapes)
unfolding gaps
gaps_not_below ego None = tt
gaps_not_below ego (Some shapes) =
    not_below-map (λ corners. box_gap ego (bounds corners))
    (λ corners. gap_not_below ego (bounds corners)) shapes

ahead_not_below : (b c : Bool) (n : ℤ) → int_lt (pos 0) n ≡ b → NotBelow (cond (b && c) (n ∷ []) [])
ahead_not_below true true n e = (omega (arith, ints, e), tt)
ahead_not_below true false n e = tt
ahead_not_below false c n e = tt

distances_not_below : (position d : Point) (width : ℤ) (pose : Option Pose)
    → NotBelow (distances position d width pose)
unfolding distances is_ahead
distances_not_below position d width None = tt
distances_not_below position d width (Some pose) =
    ahead_not_below (int_lt (pos 0) (along position d pose))
    (int_le (pos (unsigned_abs (side position d pose))) width) (along position d pose) refl

pub gap_low : (tracks : List Track) (ego : Box2) (tick : ℕ)
    → pos 0 ≤ℤ nearest_gap_in tracks ego tick
unfolding nearest_gap_in
gap_low tracks ego tick =
    least_not_below (flat_map (λ (t : Track). gaps ego (shapes_in t tick)) tracks)
    (not_below-flat_map (λ (t : Track). gaps ego (shapes_in t tick))
    (λ t. gaps_not_below ego (shapes_in t tick)) tracks)

pub gap_high : (tracks : List Track) (ego : Box2) (tick : ℕ)
    → nearest_gap_in tracks ego tick ≤ℤ MAX_DISTANCE
unfolding nearest_gap_in
gap_high tracks ego tick = least_most (flat_map (λ (t : Track). gaps ego (shapes_in t tick)) tracks)

pub headway_low : (tracks : List Track) (position : Point) (heading width : ℤ) (tick : ℕ)
    → pos 0 ≤ℤ headway_in tracks position heading width tick
unfolding headway_in
headway_low tracks position heading width tick =
    let f : Track → List ℤ = λ t. distances position (direction heading) width (pose_in t tick) in
    least_not_below (flat_map f tracks) (not_below-flat_map f
    (λ t. distances_not_below position (direction heading) width (pose_in t tick)) tracks)

pub headway_high : (tracks : List Track) (position : Point) (heading width : ℤ) (tick : ℕ)
    → headway_in tracks position heading width tick ≤ℤ MAX_DISTANCE
unfolding headway_in
headway_high tracks position heading width tick =
    least_most (flat_map (λ (t : Track). distances position (direction heading) width
    (pose_in t tick)) tracks)

pub meeting_high : (tracks : List Track) (ego : List Point) (tick : ℕ)
    → meeting_in tracks ego tick ≤ length tracks
unfolding meeting_in
meeting_high tracks ego tick =
    count_by-le-length (λ (t : Track). is_met ego (shapes_in t tick)) tracks
