-- The lanelet that is not known and that is found first is that of the first region that refers to such a one.
use Rattle.std.proofs.Common.{◌≡◌, ℕ, Bool, true, false, cond, eqb, List, [], ◌∷◌, ◌++◌, Option, Some, None, refl, ap, sym, ◌∙◌}
use Rattle.std.specs.List.{All, flat_map}
use Rattle.std.proofs.lemmas.Bool.{eq-eqb, both_ways}
use Rattle.std.proofs.lemmas.List.Elements.{All-nil, All-cons, All-head, All-tail}
use Rattle.std.proofs.lemmas.List.Folds.{list_any-from_Any}
use Rattle.scenario_model.specs.Scenario.{IsKnown}
use Rattle.scenario_model.specs.declared.problem.Goal.{Goal}
use Rattle.scenario_model.specs.declared.problem.Problem.{Problem}
use Rattle.scenario_model.specs.declared.problem.Region.{Region}
use Rattle.scenario_model.specs.declared.problem.Region.TheVariants.{Inside, OnLanelet}
use Rattle.scenario_xml.specs.Lanelets.{is_known}
use Rattle.scenario_xml.specs.ScenarioFaults.{IsFirstUnknown}
use Rattle.scenario_xml.specs.ScenarioOf.{goals_of, regions_of, IsRegionKnown}
use Rattle.scenario_xml.specs.Scenarios.{or_else, first_in, unknown_in_region, unknown_in_goal, unknown_in_problem}
use Rattle.scenario_xml.proofs.SoundLaws.{is_one}

-- a search in lists of lists is one through all their items
or_else_again : {Y : Type 0} (a b c : Option Y) → or_else (or_else a b) c ≡ or_else a (or_else b c)
or_else_again None b c = refl
or_else_again (Some y) b c = refl

found_after : {X Y : Type 0} (f : X → Option Y) (xs ys : List X) → first_in f (xs ++ ys) ≡ or_else (first_in f xs) (first_in f ys)
unfolding first_in
found_after f [] ys = refl
found_after f (x ∷ xs) ys = ap (or_else (f x)) (found_after f xs ys) ∙ sym (or_else_again (f x) (first_in f xs) (first_in f ys))

found_within : {W X Y : Type 0} (f : X → Option Y) (items : W → List X) (ws : List W) → first_in (λ w. first_in f (items w)) ws ≡ first_in f (flat_map items ws)
unfolding first_in
found_within f items [] = refl
found_within f items (w ∷ ws) = ap (or_else (first_in f (items w))) (found_within f items ws) ∙ sym (found_after f (items w) (flat_map items ws))

pub found_of : (ids : List ℕ) (problems : List Problem) → first_in (unknown_in_problem ids) problems ≡ first_in (unknown_in_region ids) (regions_of problems)
found_of ids problems = found_within (unknown_in_goal ids) (λ (p : Problem). p.goals) problems ∙ found_within (unknown_in_region ids) (λ (g : Goal). g.regions) (goals_of problems)

-- an id that is known, and one that is not
known_is : (ids : List ℕ) (id : ℕ) → IsKnown ids id → is_known ids id ≡ true
unfolding is_known
known_is ids id h = list_any-from_Any (λ (k : ℕ). eqb id k) ids (h.0, h.1, h.2, h.3, eq-eqb id h.1 (sym h.4))

is_not_known : (ids : List ℕ) (id : ℕ) → is_known ids id ≡ false → IsKnown ids id → ⊥
is_not_known ids id e h = both_ways (is_known ids id) e (known_is ids id h)

-- what a region that refers to nothing, or to a known lanelet, shows, and what one shows that refers to another
abbrev Shows : List ℕ → Region → Option ℕ → Type 0
Shows ids region None = IsRegionKnown ids region
Shows ids region (Some id) = (region ≡ OnLanelet id) × (IsKnown ids id → ⊥)

shows_lanelet : (ids : List ℕ) (id : ℕ) (b : Bool) → is_known ids id ≡ b → Shows ids (OnLanelet id) (cond b None (Some id))
shows_lanelet ids id true e = is_one ids id e
shows_lanelet ids id false e = (refl, is_not_known ids id e)

shows : (ids : List ℕ) (region : Region) → Shows ids region (unknown_in_region ids region)
shows ids (Inside shape) = tt
shows ids (OnLanelet id) = shows_lanelet ids id (is_known ids id) refl

known_shows : (ids : List ℕ) (region : Region) → IsRegionKnown ids region → unknown_in_region ids region ≡ None
known_shows ids (Inside shape) h = refl
known_shows ids (OnLanelet id) h = rw (known_is ids id h) refl

all_known_at : (ids : List ℕ) (region : Region) (regions : List Region) (o : Option ℕ) → Shows ids region o → (first_in (unknown_in_region ids) regions ≡ None → All (IsRegionKnown ids) regions)
    → or_else o (first_in (unknown_in_region ids) regions) ≡ None → All (IsRegionKnown ids) (region ∷ regions)
all_known_at ids region regions None h again e = All-cons (IsRegionKnown ids) region regions h (again e)
all_known_at ids region regions (Some id) h again e = absurd cc

pub all_known : (ids : List ℕ) (regions : List Region) → first_in (unknown_in_region ids) regions ≡ None → All (IsRegionKnown ids) regions
unfolding first_in
all_known ids [] e = All-nil (IsRegionKnown ids)
all_known ids (region ∷ regions) e = all_known_at ids region regions (unknown_in_region ids region) (shows ids region) (all_known ids regions) e

pub none_unknown : (ids : List ℕ) (regions : List Region) → All (IsRegionKnown ids) regions → first_in (unknown_in_region ids) regions ≡ None
unfolding first_in
none_unknown ids [] h = refl
none_unknown ids (region ∷ regions) h =
    rw (known_shows ids region (All-head (IsRegionKnown ids) region regions h)) (none_unknown ids regions (All-tail (IsRegionKnown ids) region regions h))

first_unknown_at : (ids : List ℕ) (region : Region) (regions : List Region) (o : Option ℕ) (id : ℕ) → Shows ids region o
    → (first_in (unknown_in_region ids) regions ≡ Some id → IsFirstUnknown ids regions id)
    → or_else o (first_in (unknown_in_region ids) regions) ≡ Some id → IsFirstUnknown ids (region ∷ regions) id
first_unknown_at ids region regions None id h again e =
    let w = again e in
    record { before = region ∷ w.before; after = w.after; cut = ap (λ (rs : List Region). region ∷ rs) w.cut; fine = All-cons (IsRegionKnown ids) region w.before h w.fine; lacking = w.lacking }
first_unknown_at ids region regions (Some other) id h again e =
    let same : other ≡ id = cc in
    let cut : region ∷ regions ≡ [] ++ OnLanelet id ∷ regions = rw (h.0, same) refl in
    record { before = []; after = regions; cut = cut; fine = All-nil (IsRegionKnown ids); lacking = rw same at h.1 }

pub first_unknown : (ids : List ℕ) (regions : List Region) (id : ℕ) → first_in (unknown_in_region ids) regions ≡ Some id → IsFirstUnknown ids regions id
unfolding first_in
first_unknown ids [] id e = absurd cc
first_unknown ids (region ∷ regions) id e = first_unknown_at ids region regions (unknown_in_region ids region) id (shows ids region) (first_unknown ids regions id) e

-- the converse of first_unknown
lanelet_unknown : (ids : List ℕ) (id : ℕ) (b : Bool) → is_known ids id ≡ b → (IsKnown ids id → ⊥) → cond b None (Some id) ≡ Some id
lanelet_unknown ids id true e h = absurd (h (is_one ids id e))
lanelet_unknown ids id false e h = refl

found_at : (ids : List ℕ) (before after : List Region) (id : ℕ) → first_in (unknown_in_region ids) before ≡ None → unknown_in_region ids (OnLanelet id) ≡ Some id
    → first_in (unknown_in_region ids) (before ++ OnLanelet id ∷ after) ≡ Some id
unfolding first_in
found_at ids before after id none here =
    found_after (unknown_in_region ids) before (OnLanelet id ∷ after) ∙ ap (λ (o : Option ℕ). or_else o (first_in (unknown_in_region ids) (OnLanelet id ∷ after))) none
    ∙ ap (λ (o : Option ℕ). or_else o (first_in (unknown_in_region ids) after)) here

pub unknown_found : (ids : List ℕ) (regions : List Region) (id : ℕ) → IsFirstUnknown ids regions id → first_in (unknown_in_region ids) regions ≡ Some id
unknown_found ids regions id w =
    ap (first_in (unknown_in_region ids)) w.cut
    ∙ found_at ids w.before w.after id (none_unknown ids w.before w.fine) (lanelet_unknown ids id (is_known ids id) refl w.lacking)
