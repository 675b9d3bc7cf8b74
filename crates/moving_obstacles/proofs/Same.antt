-- The tracks of obstacles answer as the obstacles do.
use Rattle.std.proofs.Common.{◌≡◌, ℕ, zero, suc, ◌+◌, ◌<◌, ◌==◌, Bool, true, false, cond, List, [], ◌∷◌, ◌++◌, length, get_or, refl, sym, ap, ◌∙◌, arith, ℤ}
use Rattle.std.specs.Prelude.{Option, None, Some, count_by, find, map, slice_get, option_and_then}
use Rattle.std.specs.Option.{option_map}
use Rattle.std.specs.List.{flat_map}
use Rattle.std.proofs.lemmas.List.{length-map}
use Rattle.std.proofs.lemmas.List.Concat.{flat_map-cons}
use Rattle.std.proofs.lemmas.List.Sums.{sum_by-cons}
use Rattle.fixed_geometry.specs.declared.point.Point.{Point}
use Rattle.fixed_geometry.specs.declared.point.Box2.{Box2}
use Rattle.fixed_geometry.specs.Turning.{direction}
use Rattle.scenario_model.specs.declared.obstacle.Obstacle.{Obstacle}
use Rattle.scenario_model.specs.declared.obstacle.Pose.{Pose}
use Rattle.scenario_model.specs.declared.obstacle.Shape.{Shape}
use Rattle.moving_obstacles.specs.declared.track.Placement.{Placement}
use Rattle.moving_obstacles.specs.declared.track.Track.{Track}
use Rattle.moving_obstacles.specs.Placing.{placed}
use Rattle.moving_obstacles.specs.Occupancy.{pose_at, occupancy}
use Rattle.moving_obstacles.specs.Nearness.{is_met, meeting, least, gaps, all_gaps, nearest_gap, distances, all_distances, headway}
use Rattle.moving_obstacles.specs.Tracks.{placement_of, track_of, IsTrafficOf, placement_in, pose_in, shapes_in}

unfoldable pub bit : Bool → ℕ
bit b = cond b 1 0

pub count_by-cons : {X : Type 0} (p : X → Bool) (x : X) (xs : List X) → count_by p (x ∷ xs) ≡ bit (p x) + count_by p xs
unfolding bit
count_by-cons p x xs = sum_by-cons (λ y. bit (p y)) x xs

-- a test of the images is one of what they are of
pub count_same : {X Y : Type 0} (f : X → Y) (p : Y → Bool) (q : X → Bool) → ((x : X) → p (f x) ≡ q x) → (xs : List X) → count_by p (map f xs) ≡ count_by q xs
count_same f p q same [] = refl
count_same f p q same (x ∷ xs) =
    count_by-cons p (f x) (map f xs) ∙ ap (λ (b : Bool). bit b + count_by p (map f xs)) (same x) ∙ ap (λ (n : ℕ). bit (q x) + n) (count_same f p q same xs) ∙ sym (count_by-cons q x xs)

pub flat_map_same : {X Y A : Type 0} (f : X → Y) (p : Y → List A) (q : X → List A) → ((x : X) → p (f x) ≡ q x) → (xs : List X) → flat_map p (map f xs) ≡ flat_map q xs
flat_map_same f p q same [] = refl
flat_map_same {A = A} f p q same (x ∷ xs) =
    flat_map-cons p (f x) (map f xs) ∙ ap (λ (b : List A). b ++ flat_map p (map f xs)) (same x) ∙ ap (λ (n : List A). q x ++ n) (flat_map_same f p q same xs) ∙ sym (flat_map-cons q x xs)

find_same : (shapes : List Shape) (tick : ℕ) (states : List Pose) → find (λ (p : Placement). p.pose.tick == tick) (map (placement_of shapes) states) ≡ option_map (placement_of shapes) (find (λ (pose : Pose). pose.tick == tick) states)
unfolding placement_of
find_same shapes tick [] = refl
find_same shapes tick (s ∷ ss) =
    let rest = find_same shapes tick ss in
    elim (s.tick == tick) as (λ b. cond b (Some (placement_of shapes s)) (find (λ (p : Placement). p.pose.tick == tick) (map (placement_of shapes) ss)) ≡ option_map (placement_of shapes) (cond b (Some s) (find (λ (pose : Pose). pose.tick == tick) ss))) [ true ↦ refl | false ↦ rest ]

first_same : (shapes : List Shape) (states : List Pose) → slice_get (map (placement_of shapes) states) 0 ≡ option_map (placement_of shapes) (slice_get states 0)
first_same shapes [] = refl
first_same shapes (s ∷ ss) = refl

placement_same : (o : Obstacle) (tick : ℕ) → placement_in (track_of o) tick ≡ option_map (placement_of o.shapes) (pose_at o tick)
unfolding placement_in track_of pose_at
placement_same o tick =
    elim o.moving as (λ b. cond b (find (λ (p : Placement). p.pose.tick == tick) (map (placement_of o.shapes) o.states)) (slice_get (map (placement_of o.shapes) o.states) 0) ≡ option_map (placement_of o.shapes) (cond b (find (λ (pose : Pose). pose.tick == tick) o.states) (slice_get o.states 0))) [ true ↦ find_same o.shapes tick o.states | false ↦ first_same o.shapes o.states ]

pose_back : (shapes : List Shape) (pose : Option Pose) → option_map (λ (p : Placement). p.pose) (option_map (placement_of shapes) pose) ≡ pose
unfolding placement_of
pose_back shapes None = refl
pose_back shapes (Some pose) = refl

shapes_back : (shapes : List Shape) (pose : Option Pose) → option_map (λ (p : Placement). p.shapes) (option_map (placement_of shapes) pose) ≡ option_map (λ (q : Pose). map (placed q) shapes) pose
unfolding placement_of
shapes_back shapes None = refl
shapes_back shapes (Some pose) = refl

pub pose_same : (o : Obstacle) (tick : ℕ) → pose_in (track_of o) tick ≡ pose_at o tick
unfolding pose_in
pose_same o tick = ap (option_map (λ (p : Placement). p.pose)) (placement_same o tick) ∙ pose_back o.shapes (pose_at o tick)

pub shapes_same : (o : Obstacle) (tick : ℕ) → shapes_in (track_of o) tick ≡ occupancy o tick
unfolding shapes_in occupancy
shapes_same o tick = ap (option_map (λ (p : Placement). p.shapes)) (placement_same o tick) ∙ shapes_back o.shapes (pose_at o tick)

pub length_same : (obstacles : List Obstacle) (tracks : List Track) → IsTrafficOf obstacles tracks → length tracks ≡ length obstacles
length_same obstacles tracks e = ap length e ∙ length-map obstacles track_of

pub meeting_same : (obstacles : List Obstacle) (tracks : List Track) (ego : List Point) (tick : ℕ) → IsTrafficOf obstacles tracks → count_by (λ (t : Track). is_met ego (shapes_in t tick)) tracks ≡ meeting obstacles ego tick
unfolding meeting
meeting_same obstacles tracks ego tick e =
    let test : Track → Bool = λ t. is_met ego (shapes_in t tick) in
    ap (count_by test) e ∙ count_same track_of test (λ o. is_met ego (occupancy o tick)) (λ o. ap (is_met ego) (shapes_same o tick)) obstacles

pub nearest_gap_same : (obstacles : List Obstacle) (tracks : List Track) (ego : Box2) (tick : ℕ) → IsTrafficOf obstacles tracks → least (flat_map (λ (t : Track). gaps ego (shapes_in t tick)) tracks) ≡ nearest_gap obstacles ego tick
unfolding nearest_gap all_gaps
nearest_gap_same obstacles tracks ego tick e =
    let gaps_of : Track → List ℤ = λ t. gaps ego (shapes_in t tick) in
    ap (λ (ts : List Track). least (flat_map gaps_of ts)) e ∙ ap least (flat_map_same track_of gaps_of (λ o. gaps ego (occupancy o tick)) (λ o. ap (gaps ego) (shapes_same o tick)) obstacles)

pub headway_same : (obstacles : List Obstacle) (tracks : List Track) (position : Point) (heading width : ℤ) (tick : ℕ) → IsTrafficOf obstacles tracks → least (flat_map (λ (t : Track). distances position (direction heading) width (pose_in t tick)) tracks) ≡ headway obstacles position heading width tick
unfolding headway all_distances
headway_same obstacles tracks position heading width tick e =
    let distances_of : Track → List ℤ = λ t. distances position (direction heading) width (pose_in t tick) in
    ap (λ (ts : List Track). least (flat_map distances_of ts)) e ∙ ap least (flat_map_same track_of distances_of (λ o. distances position (direction heading) width (pose_at o tick)) (λ o. ap (distances position (direction heading) width) (pose_same o tick)) obstacles)

occupancy_at : (obstacles : List Obstacle) (i tick : ℕ) (track : Track) → i < length obstacles → track ≡ get_or (map track_of obstacles) i track → shapes_in track tick ≡ option_and_then (λ (o : Obstacle). occupancy o tick) (slice_get obstacles i)
occupancy_at [] i tick track h e = absurd (omega arith)
occupancy_at (o ∷ os) zero tick track h e = ap (λ (t : Track). shapes_in t tick) e ∙ shapes_same o tick
occupancy_at (o ∷ os) (suc i) tick track h e = occupancy_at os i tick track (omega arith) e

pub occupancy_same : (obstacles : List Obstacle) (tracks : List Track) (i tick : ℕ) (track : Track) → IsTrafficOf obstacles tracks → i < length tracks → track ≡ get_or tracks i track → shapes_in track tick ≡ option_and_then (λ (o : Obstacle). occupancy o tick) (slice_get obstacles i)
occupancy_same obstacles tracks i tick track e h here =
    occupancy_at obstacles i tick track (omega (arith, ap length e, length-map obstacles track_of)) (here ∙ ap (λ (ts : List Track). get_or ts i track) e)
