-- The least number of a list, one item further.
use Rattle.std.proofs.Common.{◌≡◌, ℕ, ◌+◌, ◌<◌, List, [], ◌∷◌, length, get_or, take, sym, ap, ◌∙◌, rules, ℤ, true, pos, ◌<ℤ◌, unsigned_abs}
use Rattle.std.specs.Prelude.{map, Some, int_lt, int_le}
use Rattle.std.specs.List.{fold}
use Rattle.std.specs.Int.{int_min}
use Rattle.std.proofs.lemmas.List.{map_more}
use Rattle.std.proofs.lemmas.List.Sums.{fold-append}
use Rattle.std.proofs.lemmas.Int.{fold-int_min_bounds, fold-int_min_reached}
use Rattle.fixed_geometry.specs.declared.point.Box2.{Box2}
use Rattle.fixed_geometry.specs.declared.point.Point.{Point}
use Rattle.scenario_model.specs.declared.obstacle.Obstacle.{Obstacle}
use Rattle.scenario_model.specs.declared.obstacle.Pose.{Pose}
use Rattle.moving_obstacles.specs.Nearness.{along, side, is_ahead, distances, least, IsLeast, all_gaps, nearest_gap, all_distances, headway}
use Rattle.moving_obstacles.specs.declared.limits.TheConstants.{MAX_DISTANCE}

pub least_more : {X : Type 0} (f : X → ℤ) (xs : List X) (i : ℕ) (d : X) (a m v r : ℤ) → i < length xs → m ≡ fold int_min a (map f (take i xs)) → v ≡ f (get_or xs i d) → r ≡ int_min m v → r ≡ fold int_min a (map f (take (i + 1) xs))
least_more f xs i d a m v r h before here e =
    let split : fold int_min a (map f (take (i + 1) xs)) ≡ int_min (fold int_min a (map f (take i xs))) (f (get_or xs i d)) = ap (fold int_min a) (map_more f xs i d h) ∙ fold-append int_min a (map f (take i xs)) (f (get_or xs i d) ∷ []) in
    e ∙ ap (λ (z : ℤ). int_min z v) before ∙ ap (int_min (fold int_min a (map f (take i xs)))) here ∙ sym split

-- a pose that is ahead gives its distance alone
pub distance_there : (position unit : Point) (width : ℤ) (pose : Pose) (m r : ℤ) → pos 0 <ℤ along position unit pose → int_le (pos (unsigned_abs (side position unit pose))) width ≡ true → r ≡ int_min m (along position unit pose) → r ≡ fold int_min m (distances position unit width (Some pose))
unfolding distances is_ahead
distance_there position unit width pose m r h k e =
    let ahead : int_lt (pos 0) (along position unit pose) ≡ true = search rules in
    rw (ahead, k) e

-- the least number is a bound, and it is reached
least_is : (numbers : List ℤ) (r : ℤ) → r ≡ least numbers → IsLeast numbers r
unfolding least
least_is numbers r e =
    let bounds = fold-int_min_bounds MAX_DISTANCE numbers r e in
    record { most = bounds.0; below = bounds.1; reached = fold-int_min_reached MAX_DISTANCE numbers r e }

pub nearest_gap_is : (obstacles : List Obstacle) (ego : Box2) (tick : ℕ) (r : ℤ) → r ≡ nearest_gap obstacles ego tick → IsLeast (all_gaps obstacles ego tick) r
unfolding nearest_gap
nearest_gap_is obstacles ego tick r e = least_is (all_gaps obstacles ego tick) r e

pub headway_is : (obstacles : List Obstacle) (position : Point) (heading width : ℤ) (tick : ℕ) (r : ℤ) → r ≡ headway obstacles position heading width tick → IsLeast (all_distances obstacles position heading width tick) r
unfolding headway
headway_is obstacles position heading width tick r e = least_is (all_distances obstacles position heading width tick) r e
