-- What is listed at a tick answers as all tracks do.
use Rattle.std.proofs.Common.{◌≡◌, ℕ, ◌+◌, ◌<◌, Bool, false, List, [], ◌∷◌, ◌++◌, length, take, get_or, refl, sym, ap, subst, ◌∙◌, arith, ℤ, pos, ◌≤ℤ◌, ◌<ℤ◌, append-nil}
use Rattle.std.specs.Prelude.{Option, None, Some, IfSome, All, count_by, map, slice_get, option_and_then}
use Rattle.std.specs.Option.{option_map}
use Rattle.std.specs.List.{fold, flat_map, filter_map, cons_option}
use Rattle.std.specs.Int.{int_min}
use Rattle.std.proofs.lemmas.List.{take_more, map-append}
use Rattle.std.proofs.lemmas.List.Concat.{flat_map-cons}
use Rattle.std.proofs.lemmas.List.Elements.{All-nil, All-head, All-tail, All-push, filter_map-append}
use Rattle.std.proofs.lemmas.List.Folds.{flat_map-map}
use Rattle.std.proofs.lemmas.Option.{slice_get-get_or}
use Rattle.fixed_geometry.specs.declared.point.Point.{Point}
use Rattle.fixed_geometry.specs.declared.point.Box2.{Box2}
use Rattle.fixed_geometry.specs.Boxes.{bounds, box_gap}
use Rattle.scenario_model.specs.declared.obstacle.Pose.{Pose}
use Rattle.moving_obstacles.specs.declared.presence.Presence.{Presence}
use Rattle.moving_obstacles.specs.declared.track.Placement.{Placement}
use Rattle.moving_obstacles.specs.declared.track.Track.{Track}
use Rattle.moving_obstacles.specs.Nearness.{is_met, gaps, distances}
use Rattle.moving_obstacles.specs.Present.{placement_there, placements_at, IsPresenceOf, IsPresent, ArePresent}
use Rattle.moving_obstacles.specs.Tracks.{placement_in, shapes_in, pose_in, occupancy_in}
use Rattle.moving_obstacles.proofs.Bounding.{none_met, least_kept}
use Rattle.moving_obstacles.proofs.Same.{bit, count_by-cons, count_same, flat_map_same}

abbrev shapes_of : Option Placement → Option (List (List Point))
shapes_of o = option_map (λ (p : Placement). p.shapes) o

abbrev pose_of : Option Placement → Option Pose
pose_of o = option_map (λ (p : Placement). p.pose) o

shapes_that : (o : Option Track) (tick : ℕ) → option_and_then (λ (t : Track). shapes_in t tick) o ≡ shapes_of (option_and_then (λ (t : Track). placement_in t tick) o)
unfolding shapes_in
shapes_that None tick = refl
shapes_that (Some t) tick = refl

shapes_there : (tracks : List Track) (tick place : ℕ) → occupancy_in tracks place tick ≡ shapes_of (placement_there tracks tick place)
unfolding occupancy_in placement_there
shapes_there tracks tick place = shapes_that (slice_get tracks place) tick

-- ---- what is far away

apart : (ego : List Point) (presence : Presence) (o : Option Placement) → IfSome o (λ placement. IsPresenceOf placement presence) → pos 0 <ℤ box_gap (bounds ego) presence.bounds → false ≡ is_met ego (shapes_of o)
unfolding is_met
apart ego presence None h far = refl
apart ego presence (Some placement) h far = none_met ego presence.bounds placement.shapes h.bounds far

-- what has a box apart from that of the polygon doesn't meet it
pub not_met : (tracks : List Track) (tick : ℕ) (presence : Presence) (ego : List Point) → IsPresent tracks tick presence → pos 0 <ℤ box_gap (bounds ego) presence.bounds → false ≡ is_met ego (occupancy_in tracks presence.place tick)
not_met tracks tick presence ego h far =
    apart ego presence (placement_there tracks tick presence.place) h.placement far ∙ ap (is_met ego) (sym (shapes_there tracks tick presence.place))

far_off : (ego : Box2) (presence : Presence) (least : ℤ) (o : Option Placement) → IfSome o (λ placement. IsPresenceOf placement presence) → least ≤ℤ box_gap ego presence.bounds → least ≡ fold int_min least (gaps ego (shapes_of o))
unfolding gaps
far_off ego presence least None h far = refl
far_off ego presence least (Some placement) h far = least_kept ego presence.bounds least placement.shapes h.bounds far

-- what has a box that is no nearer changes no least gap
pub least_stays : (tracks : List Track) (tick : ℕ) (presence : Presence) (ego : Box2) (least : ℤ) → IsPresent tracks tick presence → least ≤ℤ box_gap ego presence.bounds → least ≡ fold int_min least (gaps ego (occupancy_in tracks presence.place tick))
least_stays tracks tick presence ego least h far =
    far_off ego presence least (placement_there tracks tick presence.place) h.placement far ∙ ap (λ (shapes : Option (List (List Point))). fold int_min least (gaps ego shapes)) (sym (shapes_there tracks tick presence.place))

-- ---- listing one track more

abbrev there : List Track → ℕ → Presence → Option Placement
there tracks tick presence = placement_there tracks tick presence.place

abbrev at_tick : ℕ → Track → Option Placement
at_tick tick track = placement_in track tick

placements_more : (tracks : List Track) (tick i : ℕ) (track : Track) → i < length tracks → track ≡ get_or tracks i track → placements_at (take (i + 1) tracks) tick ≡ placements_at (take i tracks) tick ++ cons_option (placement_in track tick) []
unfolding placements_at
placements_more tracks tick i track h here =
    let more : take (i + 1) tracks ≡ take i tracks ++ track ∷ [] = take_more tracks i track h ∙ ap (λ (t : Track). take i tracks ++ t ∷ []) (sym here) in
    ap (filter_map (at_tick tick)) more ∙ filter_map-append (at_tick tick) (take i tracks) (track ∷ [])

-- of the first tracks, what is present is listed
pub record AreListed (tracks : List Track) (tick i : ℕ) (present : List Presence) : Type 0 where
  pub placements : map (λ (p : Presence). placement_there tracks tick p.place) present ≡ map Some (placements_at (take i tracks) tick)
  pub each : All (IsPresent tracks tick) present

-- at first nothing is
pub none_listed : (tracks : List Track) (tick : ℕ) (present : List Presence) → present ≡ [] → AreListed tracks tick 0 present
unfolding placements_at
none_listed tracks tick present e =
    let Listed : List Presence → Type 0 = AreListed tracks tick 0 in
    subst Listed (sym e) (record { placements = refl; each = All-nil (IsPresent tracks tick) })

-- one that isn't there adds nothing
pub absent_kept : (tracks : List Track) (tick i : ℕ) (track : Track) (present : List Presence) → AreListed tracks tick i present → i < length tracks → track ≡ get_or tracks i track → placement_in track tick ≡ None → AreListed tracks tick (i + 1) present
absent_kept tracks tick i track present before h here none = record {
  placements = before.placements ∙ ap (map Some) (sym (placements_more tracks tick i track h here ∙ ap (λ (o : Option Placement). placements_at (take i tracks) tick ++ cons_option o []) none ∙ append-nil (placements_at (take i tracks) tick)));
  each = before.each;
}

seen_there : (tracks : List Track) (tick i : ℕ) (track : Track) → i < length tracks → track ≡ get_or tracks i track → placement_there tracks tick i ≡ placement_in track tick
unfolding placement_there
seen_there tracks tick i track h here =
    ap (option_and_then (at_tick tick)) (slice_get-get_or tracks i track h) ∙ ap (at_tick tick) (sym here)

-- one that is there is listed
pub present_more : (tracks : List Track) (tick i : ℕ) (track : Track) (placement : Placement) (presence : Presence) (present : List Presence) → AreListed tracks tick i present → i < length tracks → track ≡ get_or tracks i track → placement_in track tick ≡ Some placement → presence.place ≡ i → IsPresenceOf placement presence → AreListed tracks tick (i + 1) (present ++ presence ∷ [])
present_more tracks tick i track placement presence present before h here some place is =
    let seen : placement_there tracks tick presence.place ≡ Some placement = ap (placement_there tracks tick) place ∙ seen_there tracks tick i track h here ∙ some in
    let IsOf : Option Placement → Type 0 = λ o. IfSome o (λ p. IsPresenceOf p presence) in
    let after : placements_at (take (i + 1) tracks) tick ≡ placements_at (take i tracks) tick ++ placement ∷ [] = placements_more tracks tick i track h here ∙ ap (λ (o : Option Placement). placements_at (take i tracks) tick ++ cons_option o []) some in
    record {
      placements = map-append (there tracks tick) present (presence ∷ []) ∙ ap (λ (ps : List (Option Placement)). ps ++ placement_there tracks tick presence.place ∷ []) before.placements ∙ ap (λ (o : Option Placement). map Some (placements_at (take i tracks) tick) ++ o ∷ []) seen ∙ sym (map-append Some (placements_at (take i tracks) tick) (placement ∷ [])) ∙ ap (map Some) (sym after);
      each = All-push (IsPresent tracks tick) present presence before.each (record { in_range = is.bounds.in_range; placement = subst IsOf (sym seen) is });
    }

-- ---- what is asked of all that is present

count_one : (q : Option Placement → Bool) → q None ≡ false → (o : Option Placement) (rest : List Placement) → count_by (λ p. q (Some p)) (cons_option o rest) ≡ bit (q o) + count_by (λ p. q (Some p)) rest
unfolding bit
count_one q none None rest = let nothing : bit (q None) ≡ 0 = ap bit none in omega (arith, nothing)
count_one q none (Some placement) rest = count_by-cons (λ p. q (Some p)) placement rest

count_listed : (q : Option Placement → Bool) (tick : ℕ) → q None ≡ false → (tracks : List Track) → count_by (λ p. q (Some p)) (placements_at tracks tick) ≡ count_by (λ (t : Track). q (placement_in t tick)) tracks
unfolding placements_at
count_listed q tick none [] = refl
count_listed q tick none (t ∷ ts) =
    count_one q none (placement_in t tick) (filter_map (at_tick tick) ts) ∙ ap (λ (n : ℕ). bit (q (placement_in t tick)) + n) (count_listed q tick none ts) ∙ sym (count_by-cons (λ (track : Track). q (placement_in track tick)) t ts)

count_present : (q : Option Placement → Bool) (tracks : List Track) (tick : ℕ) (present : List Presence) → q None ≡ false → ArePresent tracks tick present → count_by (λ p. q (there tracks tick p)) present ≡ count_by (λ (t : Track). q (placement_in t tick)) tracks
count_present q tracks tick present none h =
    sym (count_same (there tracks tick) q (λ p. q (there tracks tick p)) (λ p. refl) present) ∙ ap (count_by q) h.placements ∙ count_same Some q (λ p. q (Some p)) (λ p. refl) (placements_at tracks tick) ∙ count_listed q tick none tracks

pub met_listed : (tracks : List Track) (tick : ℕ) (present : List Presence) (ego : List Point) → ArePresent tracks tick present → count_by (λ (p : Presence). is_met ego (occupancy_in tracks p.place tick)) present ≡ count_by (λ (t : Track). is_met ego (shapes_in t tick)) tracks
unfolding shapes_in is_met
met_listed tracks tick present ego h =
    let met : Option Placement → Bool = λ o. is_met ego (shapes_of o) in
    let same : map (λ (p : Presence). occupancy_in tracks p.place tick) present ≡ map (λ (p : Presence). shapes_of (there tracks tick p)) present = ap (λ (f : Presence → Option (List (List Point))). map f present) (λ i p. shapes_there tracks tick p.place i) in
    sym (count_same (λ (p : Presence). occupancy_in tracks p.place tick) (is_met ego) (λ p. is_met ego (occupancy_in tracks p.place tick)) (λ p. refl) present) ∙ ap (count_by (is_met ego)) same ∙ count_same (λ (p : Presence). shapes_of (there tracks tick p)) (is_met ego) (λ p. met (there tracks tick p)) (λ p. refl) present ∙ count_present met tracks tick present refl h

gather_one : (g : Option Placement → List ℤ) → g None ≡ [] → (o : Option Placement) (rest : List Placement) → flat_map (λ p. g (Some p)) (cons_option o rest) ≡ g o ++ flat_map (λ p. g (Some p)) rest
gather_one g none None rest = ap (λ (zs : List ℤ). zs ++ flat_map (λ p. g (Some p)) rest) (sym none)
gather_one g none (Some placement) rest = flat_map-cons (λ p. g (Some p)) placement rest

gather_listed : (g : Option Placement → List ℤ) (tick : ℕ) → g None ≡ [] → (tracks : List Track) → flat_map (λ p. g (Some p)) (placements_at tracks tick) ≡ flat_map (λ (t : Track). g (placement_in t tick)) tracks
unfolding placements_at
gather_listed g tick none [] = refl
gather_listed g tick none (t ∷ ts) =
    gather_one g none (placement_in t tick) (filter_map (at_tick tick) ts) ∙ ap (λ (zs : List ℤ). g (placement_in t tick) ++ zs) (gather_listed g tick none ts) ∙ sym (flat_map-cons (λ (track : Track). g (placement_in track tick)) t ts)

pub gaps_listed : (tracks : List Track) (tick : ℕ) (present : List Presence) (ego : Box2) → ArePresent tracks tick present → flat_map (λ (p : Presence). gaps ego (occupancy_in tracks p.place tick)) present ≡ flat_map (λ (t : Track). gaps ego (shapes_in t tick)) tracks
unfolding shapes_in gaps
gaps_listed tracks tick present ego h =
    let g : Option Placement → List ℤ = λ o. gaps ego (shapes_of o) in
    sym (flat_map_same (there tracks tick) g (λ p. gaps ego (occupancy_in tracks p.place tick)) (λ p. ap (gaps ego) (sym (shapes_there tracks tick p.place))) present) ∙ ap (flat_map g) h.placements ∙ flat_map_same Some g (λ p. g (Some p)) (λ p. refl) (placements_at tracks tick) ∙ gather_listed g tick refl tracks

posed : (o : Option Placement) (presence : Presence) (placement : Placement) → IfSome o (λ p. IsPresenceOf p presence) → o ≡ Some placement → presence.pose ≡ placement.pose
posed o presence placement h e =
    let IsOf : Option Placement → Type 0 = λ other. IfSome other (λ p. IsPresenceOf p presence) in
    let is = subst IsOf e h in
    is.pose

poses_are : (tracks : List Track) (tick : ℕ) (present : List Presence) (placements : List Placement) → map (there tracks tick) present ≡ map Some placements → All (IsPresent tracks tick) present → map (λ (p : Presence). p.pose) present ≡ map (λ (p : Placement). p.pose) placements
poses_are tracks tick [] [] e h = refl
poses_are tracks tick [] (q ∷ qs) e h = absurd (cc)
poses_are tracks tick (p ∷ ps) [] e h = absurd (cc)
poses_are tracks tick (p ∷ ps) (q ∷ qs) e h =
    let first : there tracks tick p ≡ Some q = cc in
    let rest : map (there tracks tick) ps ≡ map Some qs = cc in
    let is = All-head (IsPresent tracks tick) p ps h in
    ap (λ (pose : Pose). pose ∷ map (λ (x : Presence). x.pose) ps) (posed (there tracks tick p) p q is.placement first) ∙ ap (λ (poses : List Pose). q.pose ∷ poses) (poses_are tracks tick ps qs rest (All-tail (IsPresent tracks tick) p ps h))

pub distances_listed : (tracks : List Track) (tick : ℕ) (present : List Presence) (position unit : Point) (width : ℤ) → ArePresent tracks tick present → flat_map (λ (p : Presence). distances position unit width (Some p.pose)) present ≡ flat_map (λ (t : Track). distances position unit width (pose_in t tick)) tracks
unfolding pose_in distances
distances_listed tracks tick present position unit width h =
    let d : Pose → List ℤ = λ pose. distances position unit width (Some pose) in
    let g : Option Placement → List ℤ = λ o. distances position unit width (pose_of o) in
    sym (flat_map-map d (λ (p : Presence). p.pose) present) ∙ ap (flat_map d) (poses_are tracks tick present (placements_at tracks tick) h.placements h.each) ∙ flat_map-map d (λ (p : Placement). p.pose) (placements_at tracks tick) ∙ gather_listed g tick refl tracks
