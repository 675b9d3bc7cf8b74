-- Goals and problems that are well formed but for their references.
use Rattle.std.proofs.Common.{◌≡◌, ℕ, ◌<◌, ◌≤◌, Bool, true, false, cond, eqb, List, [], ◌∷◌, ◌++◌, length, length-append, Option, Some, None, refl, sym, arith, unsigned_abs}
use Rattle.std.specs.Prelude.{All, IfSome, filter}
use Rattle.std.proofs.lemmas.Bool.{eqb-true}
use Rattle.std.proofs.lemmas.List.Elements.{All-cons, All-push}
use Rattle.std.proofs.lemmas.List.Folds.{Any-from_list_any}
use Rattle.scenario_model.specs.Scenario.{IsSpan, IsKnown, IsShape, IsPose}
use Rattle.scenario_model.specs.declared.obstacle.Shape.{Shape}
use Rattle.scenario_model.specs.declared.problem.Goal.{Goal}
use Rattle.scenario_model.specs.declared.problem.Problem.{Problem}
use Rattle.scenario_model.specs.declared.problem.Region.{Region}
use Rattle.scenario_model.specs.declared.problem.Region.TheVariants.{Inside, OnLanelet}
use Rattle.scenario_model.specs.declared.problem.Span.{Span}
use Rattle.scenario_xml.specs.Lanelets.{is_known}
use Rattle.scenario_xml.specs.Scenarios.{or_else, first_in, unknown_in_region, unknown_in_goal}
use Rattle.scenario_xml.specs.declared.goal.GoalsSoFar.{GoalsSoFar}
use Rattle.scenario_xml.specs.declared.region.RegionsSoFar.{RegionsSoFar}
use Rattle.scenario_xml.specs.Sound.{IsSoundRegion, IsSoundGoal, IsSoundProblem, AreRegions, AreGoals}
use Rattle.scenario_model.specs.declared.limits.TheConstants.{MAX_GOALS, MAX_REGIONS, PAST_IDS, MAX_HEADING, MAX_SPEED, MAX_TICK}

pub is_one : (ids : List ℕ) (id : ℕ) → is_known ids id ≡ true → IsKnown ids id
unfolding is_known
is_one ids id h =
    let a = Any-from_list_any (λ (k : ℕ). eqb id k) ids h in
    (a.0, a.1, a.2, a.3, sym (eqb-true id a.1 a.4))

known_if : (ids : List ℕ) (id : ℕ) (b : Bool) → is_known ids id ≡ b → cond b None (Some id) ≡ None → IsKnown ids id
known_if ids id true h e = is_one ids id h
known_if ids id false h e = absurd cc

pub sound_shape : (shape : Shape) → IsShape shape → IsSoundRegion (Inside shape)
sound_shape shape h = record { among = λ ids e. h }

pub sound_lanelet : (id : ℕ) → IsSoundRegion (OnLanelet id)
sound_lanelet id = record { among = λ ids e. known_if ids id (is_known ids id) refl e }

none_at : {X Y : Type 0} (f : X → Option Y) (x : X) (xs : List X) (o : Option Y) → f x ≡ o → (first_in f xs ≡ None → All (λ z. f z ≡ None) xs)
    → or_else o (first_in f xs) ≡ None → All (λ z. f z ≡ None) (x ∷ xs)
none_at f x xs None h again e = All-cons (λ z. f z ≡ None) x xs h (again e)
none_at f x xs (Some y) h again e = absurd cc

pub none_found : {X Y : Type 0} (f : X → Option Y) (xs : List X) → first_in f xs ≡ None → All (λ z. f z ≡ None) xs
unfolding first_in
none_found f [] e = λ k d lt. absurd (omega arith)
none_found f (x ∷ xs) e = none_at f x xs (f x) refl (none_found f xs) e

pub sound_goal : (goal : Goal) → goal.first_tick ≤ MAX_TICK → goal.last_tick ≤ MAX_TICK → length goal.regions ≤ MAX_REGIONS → All IsSoundRegion goal.regions
    → IfSome goal.heading (IsSpan MAX_HEADING)
    → IfSome goal.speed (IsSpan MAX_SPEED)
    → IsSoundGoal goal
sound_goal goal first last few regions heading speed = record {
  among = λ ids e. record {
    first_tick = first;
    last_tick = last;
    few = few;
    regions = λ k d lt. (regions k d lt).among ids (none_found (unknown_in_region ids) goal.regions e k d lt);
    heading = heading;
    speed = speed;
  };
}

pub sound_problem : (problem : Problem) → problem.id < PAST_IDS → IsPose problem.start → 1 ≤ length problem.goals → length problem.goals ≤ MAX_GOALS → All IsSoundGoal problem.goals → IsSoundProblem problem
sound_problem problem id start some few goals = record {
  among = λ ids e. record {
    id = id;
    start = start;
    some = some;
    few = few;
    goals = λ k d lt. (goals k d lt).among ids (none_found (unknown_in_goal ids) problem.goals e k d lt);
  };
}

kept : (ids : List ℕ) (x : ℕ) (ys : List ℕ) (b : Bool) → is_known ids x ≡ b → All (IsKnown ids) ys → All (IsKnown ids) (cond b (x ∷ ys) ys)
kept ids x ys true h all = All-cons (IsKnown ids) x ys (is_one ids x h) all
kept ids x ys false h all = all

pub only_known : (ids xs : List ℕ) → All (IsKnown ids) (filter (is_known ids) xs)
only_known ids [] = λ k d lt. absurd (omega arith)
only_known ids (x ∷ xs) = kept ids x (filter (is_known ids) xs) (is_known ids x) refl (only_known ids xs)

pub regions_more : (s : RegionsSoFar) (region : Region) → AreRegions s → IsSoundRegion region → length s.regions < MAX_REGIONS → AreRegions (record s { regions = s.regions ++ region ∷ [] })
regions_more s region h sound few = record {
  few = omega (arith, few, length-append s.regions (region ∷ []));
  regions = All-push IsSoundRegion s.regions region h.regions sound;
}

pub goals_more : (s : GoalsSoFar) (goal : Goal) → AreGoals s → IsSoundGoal goal → length s.goals < MAX_GOALS → AreGoals (record s { goals = s.goals ++ goal ∷ [] })
goals_more s goal h sound few = record {
  few = omega (arith, few, length-append s.goals (goal ∷ []));
  goals = All-push IsSoundGoal s.goals goal h.goals sound;
}
