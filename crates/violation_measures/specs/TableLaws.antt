-- The features of a scene have numbers of their own, and lie in their bounds.
use Rattle.std.proofs.Common.{◌≡◌, ℕ, ◌+◌, ◌-◌, ◌<◌, ◌≤◌, Bool, true, false, not, cond, ℤ, pos}
use Rattle.std.proofs.Common.{◌≤ℤ◌, neg_ℤ, List, [], length, get_or, refl, sym, ap, subst, ◌∙◌}
use Rattle.std.proofs.Common.{arith, Option, None, Some}
use Rattle.std.specs.Prelude.{IsSome, ◌↔◌, codes, nat_lt, unsigned_abs}
use Rattle.std.specs.List.{position, list_any}
use Rattle.std.specs.Option.{option_map}
use Rattle.std.specs.Str.{bytes_eq}
use Rattle.std.proofs.lemmas.Int.{ints}
use Rattle.std.proofs.lemmas.Bool.Decides.{nat_tests, Decides-eqb}
use Rattle.std.proofs.lemmas.List.Quantifiers.{position-Some}
use Rattle.std.proofs.lemmas.List.Sums.{count_by-le-length}
use Rattle.std.proofs.lemmas.Slice.Eq.{bytes_eq-Decides}
use Rattle.expressions.specs.declared.tree.Argument.{Argument}
use Rattle.expressions.specs.declared.tree.Argument.TheVariants.{Named, Number}
use Rattle.fixed_geometry.specs.declared.point.Point.{Point}
use Rattle.fixed_geometry.specs.declared.point.Box2.{Box2}
use Rattle.fixed_geometry.specs.Shapes.{rectangle}
use Rattle.lanelet_network.specs.Lanes.{Lane, has_id, holds}
use Rattle.scenario_model.specs.declared.problem.Span.{Span}
use Rattle.violation_measures.specs.Intervals.{IsIn}
use Rattle.violation_measures.specs.Scenes.{Scene, one_if, ego, plain, in_lanelet, maneuver}
use Rattle.violation_measures.specs.Scenes.{feature_named, value_in, bounds_in, number, numbered}
use Rattle.violation_measures.specs.Scenes.{features_of, HasTable}
use Rattle.violation_measures.specs.Sources.{AreSound}
use Rattle.violation_measures.specs.Steps.{IsStep}
use Rattle.violation_measures.specs.declared.feature.Feature.{Feature}
use Rattle.violation_measures.specs.declared.feature.Feature.TheVariants as feature
use Rattle.violation_measures.specs.declared.feature.TheConstants.{FIRST_LANELET, FIRST_MANEUVER}
use Rattle.violation_measures.specs.declared.feature.TheConstants.{PAST_FEATURES}
use Rattle.scenario_model.specs.declared.limits.TheConstants.{MAX_OBSTACLES, MAX_LANELETS}
use Rattle.moving_obstacles.specs.declared.limits.TheConstants.{MAX_DISTANCE}
use Rattle.violation_measures.specs.declared.scene_source.TheConstants.{MAX_MANEUVERS}
use Rattle.violation_measures.specs.declared.source.TheConstants.{MAX_BOUND}
use Rattle.violation_measures.specs.declared.step.Step.{Step}
use Rattle.violation_measures.specs.declared.step.TheConstants.{MAX_SPEED, MAX_TURN}

-- what is so of a scene whose traffic and lanelets are few
pub record IsScene (scene : Scene) : Type 0 where
  pub few_lanes : length scene.lanes ≤ MAX_LANELETS
  pub few_maneuvers : length scene.maneuvers ≤ MAX_MANEUVERS
  pub few_met : (ego : List Point) (tick : ℕ) → scene.meeting ego tick ≤ MAX_OBSTACLES
  pub gap_low : (ego : Box2) (tick : ℕ) → pos 0 ≤ℤ scene.nearest_gap ego tick
  pub gap_high : (ego : Box2) (tick : ℕ) → scene.nearest_gap ego tick ≤ℤ MAX_DISTANCE
  pub headway_low : (p : Point) (heading width : ℤ) (tick : ℕ)
      → pos 0 ≤ℤ scene.headway p heading width tick
  pub headway_high : (p : Point) (heading width : ℤ) (tick : ℕ)
      → scene.headway p heading width tick ≤ℤ MAX_DISTANCE

-- ---- names and numbers

no_lane : Lane
no_lane = record { id = 0; left = []; corners = []; successors = [] }

-- the name of a feature
abbrev name_of : Feature → List ℕ
name_of feature.Overlaps = codes "overlaps"
name_of feature.OffRoad = codes "off_road"
name_of feature.Lanes = codes "lanes"
name_of feature.WrongWay = codes "wrong_way"
name_of feature.Speed = codes "speed"
name_of feature.Accel = codes "accel"
name_of feature.Turn = codes "turn"
name_of feature.Tick = codes "tick"
name_of feature.Gap = codes "gap"
name_of feature.Headway = codes "headway"
name_of (feature.InLanelet place) = codes "in_lanelet"
name_of (feature.Maneuver place) = codes "maneuver"

abbrev argument_of : Scene → Feature → Option Argument
argument_of scene feature.Overlaps = None
argument_of scene feature.OffRoad = None
argument_of scene feature.Lanes = None
argument_of scene feature.WrongWay = None
argument_of scene feature.Speed = None
argument_of scene feature.Accel = None
argument_of scene feature.Turn = None
argument_of scene feature.Tick = None
argument_of scene feature.Gap = None
argument_of scene feature.Headway = None
argument_of scene (feature.InLanelet place) = Some (Number (get_or scene.lanes place no_lane).id)
argument_of scene (feature.Maneuver place) = Some (Named (get_or scene.maneuvers place []))

-- the places of lanelets and maneuvers are small
abbrev IsPlaced : Feature → Type 0
IsPlaced feature.Overlaps = Unit {0}
IsPlaced feature.OffRoad = Unit {0}
IsPlaced feature.Lanes = Unit {0}
IsPlaced feature.WrongWay = Unit {0}
IsPlaced feature.Speed = Unit {0}
IsPlaced feature.Accel = Unit {0}
IsPlaced feature.Turn = Unit {0}
IsPlaced feature.Tick = Unit {0}
IsPlaced feature.Gap = Unit {0}
IsPlaced feature.Headway = Unit {0}
IsPlaced (feature.InLanelet place) = place < MAX_LANELETS
IsPlaced (feature.Maneuver place) = place < MAX_MANEUVERS

-- what is so of the feature of a name and an argument
record IsRow (scene : Scene) (name : List ℕ) (argument : Option Argument)
    (row : Feature) : Type 0 where
  named : name ≡ name_of row
  about : argument ≡ argument_of scene row
  placed : IsPlaced row

chosen : (scene : Scene) (name : List ℕ) (argument : Option Argument) (b : Bool) (first : Feature)
    (rest : Option Feature) → (b ≡ true → IsRow scene name argument first)
    → ((row : Feature) → rest ≡ Some row → IsRow scene name argument row) → (row : Feature)
    → cond b (Some first) rest ≡ Some row → IsRow scene name argument row
chosen scene name argument true first rest h k row e =
    let same : first ≡ row = cc in subst (λ (r : Feature). IsRow scene name argument r) same
    (h refl)
chosen scene name argument false first rest h k row e = k row e

no_row : (scene : Scene) (name : List ℕ) (argument : Option Argument) (row : Feature)
    → None ≡ Some row → IsRow scene name argument row
no_row scene name argument row e = absurd cc

same_bytes : (name text : List ℕ) → bytes_eq name text ≡ true → name ≡ text
same_bytes name text e = (bytes_eq-Decides name text).0 e

plain_row : (scene : Scene) (name : List ℕ) (row : Feature) → plain name ≡ Some row
    → IsRow scene name None row
unfolding plain
plain_row scene name =
    chosen scene name None _ feature.Overlaps _ (λ t.
    record { named = same_bytes name _ t; about = refl; placed = tt })
    (chosen scene name None _ feature.OffRoad _ (λ t.
    record { named = same_bytes name _ t; about = refl; placed = tt })
    (chosen scene name None _ feature.Lanes _ (λ t.
    record { named = same_bytes name _ t; about = refl; placed = tt })
    (chosen scene name None _ feature.WrongWay _ (λ t.
    record { named = same_bytes name _ t; about = refl; placed = tt })
    (chosen scene name None _ feature.Speed _ (λ t.
    record { named = same_bytes name _ t; about = refl; placed = tt })
    (chosen scene name None _ feature.Accel _ (λ t.
    record { named = same_bytes name _ t; about = refl; placed = tt })
    (chosen scene name None _ feature.Turn _ (λ t.
    record { named = same_bytes name _ t; about = refl; placed = tt })
    (chosen scene name None _ feature.Tick _ (λ t.
    record { named = same_bytes name _ t; about = refl; placed = tt })
    (chosen scene name None _ feature.Gap _ (λ t.
    record { named = same_bytes name _ t; about = refl; placed = tt })
    (chosen scene name None _ feature.Headway _ (λ t.
    record { named = same_bytes name _ t; about = refl; placed = tt })
    (no_row scene name None))))))))))

lanelet_there : (scene : Scene) → IsScene scene → (name : List ℕ) (id : ℕ)
    → name ≡ codes "in_lanelet" → (found : Option ℕ) → position (has_id id) scene.lanes ≡ found
    → (row : Feature) → option_map feature.InLanelet found ≡ Some row
    → IsRow scene name (Some (Number id)) row
lanelet_there scene h name id named None is row e = absurd cc
lanelet_there scene h name id named (Some place) is row e =
    let found = position-Some (has_id id) scene.lanes place no_lane is in
    let same : feature.InLanelet place ≡ row = cc in
    let own : (get_or scene.lanes place no_lane).id
    ≡ id = (Decides-eqb (get_or scene.lanes place no_lane).id id).0 found.1 in
    subst (λ (r : Feature). IsRow scene name (Some (Number id)) r) same
    (record {
      named = named;
      about = ap (λ (n : ℕ). Some (Number n)) (sym own);
      placed = omega (arith, found.0, h.few_lanes);
    })

lanelet_row : (scene : Scene) → IsScene scene → (name : List ℕ) (id : ℕ) (row : Feature) (b : Bool)
    → bytes_eq name (codes "in_lanelet") ≡ b
    → cond b (option_map feature.InLanelet (position (has_id id) scene.lanes)) None ≡ Some row
    → IsRow scene name (Some (Number id)) row
lanelet_row scene h name id row true t e =
    lanelet_there scene h name id (same_bytes name (codes "in_lanelet") t)
    (position (has_id id) scene.lanes) refl row e
lanelet_row scene h name id row false t e = absurd cc

maneuver_there : (scene : Scene) → IsScene scene → (name about : List ℕ) → name ≡ codes "maneuver"
    → (found : Option ℕ) → position (λ (other : List ℕ). bytes_eq other about) scene.maneuvers
    ≡ found
    → (row : Feature) → option_map feature.Maneuver found ≡ Some row
    → IsRow scene name (Some (Named about)) row
maneuver_there scene h name about named None is row e = absurd cc
maneuver_there scene h name about named (Some place) is row e =
    let found = position-Some (λ (other : List ℕ). bytes_eq other about) scene.maneuvers place
    [] is in
    let same : feature.Maneuver place ≡ row = cc in
    let own : get_or scene.maneuvers place [] ≡ about = same_bytes
    (get_or scene.maneuvers place []) about found.1 in
    subst (λ (r : Feature). IsRow scene name (Some (Named about)) r) same
    (record {
      named = named;
      about = ap (λ (n : List ℕ). Some (Named n)) (sym own);
      placed = omega (arith, found.0, h.few_maneuvers);
    })

maneuver_row : (scene : Scene) → IsScene scene → (name about : List ℕ) (row : Feature) (b : Bool)
    → bytes_eq name (codes "maneuver") ≡ b
    → cond b (option_map feature.Maneuver (position
    (λ (other : List ℕ). bytes_eq other about) scene.maneuvers)) None ≡ Some row
    → IsRow scene name (Some (Named about)) row
maneuver_row scene h name about row true t e =
    maneuver_there scene h name about (same_bytes name (codes "maneuver") t)
    (position (λ (other : List ℕ). bytes_eq other about) scene.maneuvers) refl row e
maneuver_row scene h name about row false t e = absurd cc

row_is : (scene : Scene) → IsScene scene → (name : List ℕ) (argument : Option Argument)
    (row : Feature) → feature_named scene name argument ≡ Some row → IsRow scene name argument row
unfolding in_lanelet maneuver
row_is scene h name None row e = plain_row scene name row e
row_is scene h name (Some (Number id)) row e =
    lanelet_row scene h name id row (bytes_eq name (codes "in_lanelet")) refl e
row_is scene h name (Some (Named about)) row e =
    maneuver_row scene h name about row (bytes_eq name (codes "maneuver")) refl e

-- ---- numbers

lanelet_back : (place : ℕ) → place < MAX_LANELETS
    → numbered (FIRST_LANELET + place) ≡ feature.InLanelet place
unfolding numbered
lanelet_back place h =
    let low : nat_lt (FIRST_LANELET + place) FIRST_LANELET ≡ false = grind (arith, nat_tests) in
    let high : nat_lt (FIRST_LANELET + place) FIRST_MANEUVER ≡ true = grind (arith, nat_tests, h) in
    let back : FIRST_LANELET + place - FIRST_LANELET ≡ place = omega arith in
    rw (low, high) (ap feature.InLanelet back)

maneuver_back : (place : ℕ) → numbered (FIRST_MANEUVER + place) ≡ feature.Maneuver place
unfolding numbered
maneuver_back place =
    let low : nat_lt (FIRST_MANEUVER + place) FIRST_LANELET ≡ false = grind (arith, nat_tests) in
    let high : nat_lt (FIRST_MANEUVER + place) FIRST_MANEUVER ≡ false = grind (arith, nat_tests) in
    let back : FIRST_MANEUVER + place - FIRST_MANEUVER ≡ place = omega arith in
    rw (low, high) (ap feature.Maneuver back)

numbered_back : (row : Feature) → IsPlaced row → numbered (number row) ≡ row
unfolding numbered
numbered_back feature.Overlaps h = refl
numbered_back feature.OffRoad h = refl
numbered_back feature.Lanes h = refl
numbered_back feature.WrongWay h = refl
numbered_back feature.Speed h = refl
numbered_back feature.Accel h = refl
numbered_back feature.Turn h = refl
numbered_back feature.Tick h = refl
numbered_back feature.Gap h = refl
numbered_back feature.Headway h = refl
numbered_back (feature.InLanelet place) h = lanelet_back place h
numbered_back (feature.Maneuver place) h = maneuver_back place

number_small : (row : Feature) → IsPlaced row → number row < PAST_FEATURES
number_small feature.Overlaps h = omega arith
number_small feature.OffRoad h = omega arith
number_small feature.Lanes h = omega arith
number_small feature.WrongWay h = omega arith
number_small feature.Speed h = omega arith
number_small feature.Accel h = omega arith
number_small feature.Turn h = omega arith
number_small feature.Tick h = omega arith
number_small feature.Gap h = omega arith
number_small feature.Headway h = omega arith
number_small (feature.InLanelet place) h = omega (arith, h)
number_small (feature.Maneuver place) h = omega (arith, h)

-- the row of a number that is found
record IsFound (scene : Scene) (name : List ℕ) (argument : Option Argument) (n : ℕ) : Type 0 where
  row : Feature
  known_is : feature_named scene name argument ≡ Some row
  number_is : n ≡ number row

found_in : (scene : Scene) (name : List ℕ) (argument : Option Argument) (n : ℕ)
    (found : Option Feature) → feature_named scene name argument ≡ found
    → option_map number found ≡ Some n
    → IsFound scene name argument n
found_in scene name argument n None is e = absurd cc
found_in scene name argument n (Some row) is e =
    record { row = row; known_is = is; number_is = (let k : number row ≡ n = cc in sym k) }

pub known_small : (scene : Scene) → IsScene scene
    → (name : List ℕ) (argument : Option Argument) (row : Feature)
    → Some row ≡ feature_named scene name argument → number row < PAST_FEATURES
known_small scene h name argument row e =
    number_small row (row_is scene h name argument row (sym e)).placed

-- ---- the table

both_some : (found : Option Feature) → IsSome (option_map number found) ↔ IsSome found
both_some None = (λ h. h, λ h. h)
both_some (Some row) = (λ h. h, λ h. h)

row_of_number : (scene : Scene) → IsScene scene
    → (name : List ℕ) (argument : Option Argument) (n : ℕ) (row : Feature)
    → option_map number (feature_named scene name argument) ≡ Some n
    → feature_named scene name argument ≡ Some row
    → numbered n ≡ row
row_of_number scene h name argument n row e is =
    let same : option_map number (Some row) ≡ Some n = ap (option_map number) (sym is) ∙ e in
    let number_is : number row ≡ n = cc in
    ap numbered (sym number_is) ∙ numbered_back row (row_is scene h name argument row is).placed

pub has_table : (scene : Scene) → IsScene scene → HasTable scene (features_of scene)
has_table scene h = record {
  exactly = λ name argument. both_some (feature_named scene name argument);
  value =
      λ name argument n row e is step. ap (λ (r : Feature). value_in scene r step)
      (row_of_number scene h name argument n row e is);
  bounds =
      λ name argument n row e is. ap bounds_in (row_of_number scene h name argument n row e is);
  small = λ name argument n e.
      let found = found_in scene name argument n (feature_named scene name argument) refl e in
      subst (λ (k : ℕ). k < PAST_FEATURES) (sym found.number_is)
      (number_small found.row (row_is scene h name argument found.row found.known_is).placed);
  own = λ name other argument another n e k.
      let one = found_in scene name argument n (feature_named scene name argument) refl e in
      let two = found_in scene other another n (feature_named scene other another) refl k in
      let first = row_is scene h name argument one.row one.known_is in
      let second = row_is scene h other another two.row two.known_is in
      let same : one.row ≡ two.row = sym (numbered_back one.row first.placed)
      ∙ ap numbered (sym one.number_is ∙ two.number_is) ∙ numbered_back two.row second.placed in (
        first.named ∙ ap name_of same ∙ sym second.named,
        first.about ∙ ap (argument_of scene) same
            ∙ sym second.about,
      );
}

-- ---- bounds

one_low : (b : Bool) → pos 0 ≤ℤ one_if b
one_low true = omega (arith, ints)
one_low false = omega (arith, ints)

one_high : (b : Bool) → one_if b ≤ℤ pos 1
one_high true = omega (arith, ints)
one_high false = omega (arith, ints)

corners_few : (scene : Scene) (step : Step) → length (ego scene step) ≡ 4
unfolding ego rectangle
corners_few scene step = refl

size_within : (z : ℤ) (n : ℕ) → unsigned_abs z ≤ n → (neg_ℤ (pos n) ≤ℤ z) × (z ≤ℤ pos n)
size_within z n h = (omega (arith, ints, h), omega (arith, ints, h))

value_within : (scene : Scene) → IsScene scene → (row : Feature) (step : Step) → IsStep step
    → IsIn (bounds_in row) (value_in scene row step)
value_within scene h feature.Overlaps step s =
    record {
      above = omega (arith, ints);
      below = omega
          (arith, ints, h.few_met (ego scene step) step.tick);
    }
value_within scene h feature.OffRoad step s = record {
  above = omega (arith, ints);
  below =
      omega (
        arith,
        ints,
        corners_few scene step,
        count_by-le-length
            (λ (corner : Point). not (list_any (holds corner) scene.lanes)) (ego scene step),
      );
}
value_within scene h feature.Lanes step s =
    record {
      above = omega (arith, ints);
      below = omega (
        arith,
        ints,
        h.few_lanes,
        count_by-le-length
            (holds (record { x = step.x; y = step.y })) scene.lanes,
      );
    }
value_within scene h feature.WrongWay step s = record { above = one_low _; below = one_high _ }
value_within scene h feature.Speed step s =
    let w = size_within step.speed (unsigned_abs MAX_SPEED) s.speed in record {
      above = w.0;
      below = w.1;
    }
value_within scene h feature.Accel step s =
    let w = size_within step.accel (unsigned_abs MAX_SPEED) s.accel in record {
      above = w.0;
      below = w.1;
    }
value_within scene h feature.Turn step s =
    let w = size_within step.turn (unsigned_abs MAX_TURN) s.turn in record {
      above = w.0;
      below = w.1;
    }
value_within scene h feature.Tick step s =
    record { above = omega (arith, ints); below = omega (arith, ints, s.tick) }
value_within scene h feature.Gap step s = record { above = h.gap_low _ _; below = h.gap_high _ _ }
value_within scene h feature.Headway step s =
    record { above = h.headway_low _ _ _ _; below = h.headway_high _ _ _ _ }
value_within scene h (feature.InLanelet place) step s =
    record { above = one_low _; below = one_high _ }
value_within scene h (feature.Maneuver place) step s =
    record { above = one_low _; below = one_high _ }

record IsBounded (i : Span) : Type 0 where
  least : neg_ℤ MAX_BOUND ≤ℤ i.low
  ordered : i.low ≤ℤ i.high
  most : i.high ≤ℤ MAX_BOUND

bounds_bounded : (row : Feature) → IsBounded (bounds_in row)
bounds_bounded feature.Overlaps =
    record {
      least = omega (arith, ints);
      ordered = omega (arith, ints);
      most = omega (arith, ints);
    }
bounds_bounded feature.OffRoad =
    record {
      least = omega (arith, ints);
      ordered = omega (arith, ints);
      most = omega (arith, ints);
    }
bounds_bounded feature.Lanes =
    record {
      least = omega (arith, ints);
      ordered = omega (arith, ints);
      most = omega (arith, ints);
    }
bounds_bounded feature.WrongWay =
    record {
      least = omega (arith, ints);
      ordered = omega (arith, ints);
      most = omega (arith, ints);
    }
bounds_bounded feature.Speed =
    record {
      least = omega (arith, ints);
      ordered = omega (arith, ints);
      most = omega (arith, ints);
    }
bounds_bounded feature.Accel =
    record {
      least = omega (arith, ints);
      ordered = omega (arith, ints);
      most = omega (arith, ints);
    }
bounds_bounded feature.Turn =
    record {
      least = omega (arith, ints);
      ordered = omega (arith, ints);
      most = omega (arith, ints);
    }
bounds_bounded feature.Tick =
    record {
      least = omega (arith, ints);
      ordered = omega (arith, ints);
      most = omega (arith, ints);
    }
bounds_bounded feature.Gap =
    record {
      least = omega (arith, ints);
      ordered = omega (arith, ints);
      most = omega (arith, ints);
    }
bounds_bounded feature.Headway =
    record {
      least = omega (arith, ints);
      ordered = omega (arith, ints);
      most = omega (arith, ints);
    }
bounds_bounded (feature.InLanelet place) =
    record {
      least = omega (arith, ints);
      ordered = omega (arith, ints);
      most = omega (arith, ints);
    }
bounds_bounded (feature.Maneuver place) =
    record {
      least = omega (arith, ints);
      ordered = omega (arith, ints);
      most = omega (arith, ints);
    }

pub features_sound : (scene : Scene) → IsScene scene → AreSound (features_of scene)
features_sound scene h = record {
  least = λ n k. (bounds_bounded (numbered n)).least;
  ordered = λ n k. (bounds_bounded (numbered n)).ordered;
  most = λ n k. (bounds_bounded (numbered n)).most;
  within = λ n step k s. value_within scene h (numbered n) step s;
}
