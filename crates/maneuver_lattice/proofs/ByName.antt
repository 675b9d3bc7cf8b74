-- The maneuver that has a name among those that can be chosen.
use Rattle.std.proofs.Common.{◌≡◌, ℕ, zero, suc, ◌+◌, ◌-◌, ◌<◌, ◌≤◌, Bool, true, false, cond, ltb, List, [], ◌∷◌, length, get_or, Some, None, Option, IfSome, IsNone, refl, sym, ap, ◌∙◌, arith}
use Rattle.std.specs.List.{filter, position, position_or_len}
use Rattle.std.specs.Str.{bytes_eq}
use Rattle.std.proofs.lemmas.Bool.{ltb-false}
use Rattle.std.proofs.lemmas.List.{get_or_default}
use Rattle.std.proofs.lemmas.List.Sums.{length-filter, fails_before_first}
use Rattle.std.proofs.lemmas.List.Quantifiers.{position-Some}
use Rattle.std.proofs.lemmas.Slice.Eq.{bytes_eq-Decides}
use Rattle.maneuver_lattice.specs.Scenes.{Scene, places_from, is_open, is_named, open_maneuvers, choice_named, choices, chosen, maneuver_of, maneuver_at, IsNamedChoice, HasNoChoice}
use Rattle.maneuver_lattice.specs.declared.lattice.Maneuver.{Maneuver}
use Rattle.maneuver_lattice.specs.declared.state.LatticeState.{LatticeState}
use Rattle.maneuver_lattice.proofs.OpenManeuvers.{place_is, choices_count}

-- The items that pass a test, by their places. The first item is at n.
passing_at : {X : Type 0} (test : X → Bool) (n : ℕ) (x : X) (xs : List X) (k : ℕ) (d : X) (b : Bool) → test x ≡ b
    → ((j : ℕ) → j < length (places_from test (n + 1) xs) → get_or (filter test xs) j d ≡ get_or xs (get_or (places_from test (n + 1) xs) j 0 - (n + 1)) d)
    → k < length (cond b (n ∷ places_from test (n + 1) xs) (places_from test (n + 1) xs))
    → get_or (cond b (x ∷ filter test xs) (filter test xs)) k d ≡ get_or (x ∷ xs) (get_or (cond b (n ∷ places_from test (n + 1) xs) (places_from test (n + 1) xs)) k 0 - n) d
passing_at test n x xs zero d true e again lt = let here : n - n ≡ 0 = omega arith in rw here refl
passing_at test n x xs (suc k) d true e again lt =
    let below : k < length (places_from test (n + 1) xs) = omega (arith, lt) in
    let place : ℕ = get_or (places_from test (n + 1) xs) k 0 in
    let from = (place_is test (n + 1) xs k below).from in
    let later : place - n ≡ suc (place - (n + 1)) = omega (arith, from) in
    rw later (again k below)
passing_at test n x xs k d false e again lt =
    let place : ℕ = get_or (places_from test (n + 1) xs) k 0 in
    let from = (place_is test (n + 1) xs k lt).from in
    let later : place - n ≡ suc (place - (n + 1)) = omega (arith, from) in
    rw later (again k lt)

passing : {X : Type 0} (test : X → Bool) (n : ℕ) (xs : List X) (k : ℕ) (d : X) → k < length (places_from test n xs) → get_or (filter test xs) k d ≡ get_or xs (get_or (places_from test n xs) k 0 - n) d
passing test n [] k d lt = absurd (omega arith)
passing test n (x ∷ xs) k d lt = passing_at test n x xs k d (test x) refl (λ j below. passing test (n + 1) xs j d below) lt

abbrev open_ones : Scene → LatticeState → List Maneuver
open_ones scene state = filter (is_open scene.lattice.horizon state) scene.lattice.maneuvers

chosen_at : (scene : Scene) (state : LatticeState) (choice : ℕ) → choice < choices scene state → get_or (open_ones scene state) choice (maneuver_at [] 0) ≡ chosen scene state choice
unfolding open_maneuvers
chosen_at scene state choice lt =
    let place : ℕ = maneuver_of scene state choice in
    let none : place - 0 ≡ place = omega arith in
    passing (is_open scene.lattice.horizon state) 0 scene.lattice.maneuvers choice (maneuver_at [] 0) lt ∙ ap (λ (p : ℕ). get_or scene.lattice.maneuvers p (maneuver_at [] 0)) none

count : (scene : Scene) (state : LatticeState) → length (open_ones scene state) ≡ choices scene state
count scene state = length-filter (is_open scene.lattice.horizon state) scene.lattice.maneuvers ∙ sym (choices_count scene state)

pub named_is : (scene : Scene) (state : LatticeState) (name : List ℕ) (choice : ℕ) → choice_named scene state name ≡ Some choice → IsNamedChoice scene state name choice
unfolding choice_named
named_is scene state name choice e =
    let p = position-Some (is_named name) (open_ones scene state) choice (maneuver_at [] 0) e in
    let below : choice < choices scene state = omega (arith, p.0, count scene state) in
    let named : is_named name (chosen scene state choice) ≡ true = ap (is_named name) (sym (chosen_at scene state choice below)) ∙ p.1 in
    record { within = below; named = (bytes_eq-Decides (chosen scene state choice).name name).0 named }

unplaced : (b : Bool) (n : ℕ) → cond b (Some n) None ≡ None → b ≡ false
unplaced true n e = absurd cc
unplaced false n e = refl

pub none_named : (scene : Scene) (state : LatticeState) (name : List ℕ) → choice_named scene state name ≡ None → HasNoChoice scene state name
unfolding choice_named
none_named scene state name e choice below same =
    let len : ℕ = position_or_len (is_named name) (open_ones scene state) in
    let past = ltb-false len (length (open_ones scene state)) (unplaced (ltb len (length (open_ones scene state))) len e) in
    let fails = fails_before_first (is_named name) (open_ones scene state) choice (maneuver_at [] 0) (omega (arith, past, count scene state)) in
    let off : is_named name (chosen scene state choice) ≡ false = ap (is_named name) (sym (chosen_at scene state choice below)) ∙ fails in
    let on : is_named name (chosen scene state choice) ≡ true = (bytes_eq-Decides (chosen scene state choice).name name).1 same in
    absurd (let no : true ≡ false = sym on ∙ off in cc)
