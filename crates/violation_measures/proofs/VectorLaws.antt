-- What steps and ends add, and the sums of runs.
use Rattle.std.proofs.Common.{◌≡◌, ℕ, ◌+◌, ◌-◌, take, ◌*◌, ◌≤◌, ◌<◌, Bool, true, false, cond, ℤ, pos, negsuc, List, [], ◌∷◌, ◌++◌, map, length, get_or, refl, sym, ap, subst, ◌∙◌, zero-add, arith, Option, None, Some}
use Rattle.std.specs.Prelude.{All, replicate, slice_index, slice_set}
use Rattle.std.specs.List.{sum_by, last_or}
use Rattle.std.proofs.lemmas.List.{length-map, length-take, get_or-map, take_more}
use Rattle.std.proofs.Math.Seq.{take-length}
use Rattle.std.proofs.Math.Nat.{mul-le-mul_right}
use Rattle.std.proofs.lemmas.List.Elements.{All-map}
use Rattle.std.proofs.lemmas.List.Sums.{sum_by-append, sum_by-le}
use Rattle.preorder.specs.Violation.{IsWidth}
use Rattle.rule_language.specs.declared.book.Rule.{Rule}
use Rattle.rule_language.specs.declared.part.Part.{Part}
use Rattle.rulebook_order.specs.StepGraph.{HasRoom}
use Rattle.rulebook_order.specs.Sums.{sums}
use Rattle.violation_measures.specs.declared.amount.TheConstants.{MAX_AMOUNT, MAX_PART_AMOUNT, MAX_PART_VALUE}
use Rattle.violation_measures.specs.Amounts.{part_value, weighted, rule_value, end_value, IsBoundPart}
use Rattle.violation_measures.specs.Binding.{IsBoundRule, IsBoundTo}
use Rattle.violation_measures.specs.Sources.{Features, at_step}
use Rattle.violation_measures.specs.Values.{Valuation, value}
use Rattle.violation_measures.specs.Vectors.{width, value_at, end_at, step_vector, end_vector, run, end_after, trajectory_vector, IsUpTo}
use Rattle.violation_measures.specs.declared.bound.Bound.{Bound}
use Rattle.violation_measures.specs.declared.bound.BoundPart.{BoundPart}
use Rattle.violation_measures.specs.declared.bound.BoundRule.{BoundRule}
use Rattle.violation_measures.specs.declared.step.Step.{Step}
use Rattle.violation_measures.proofs.Added.{added, added_one}
use Rattle.violation_measures.proofs.Sizes.{weighted_fits}

-- ---- lists of numbers, one for each item

map_same : {X : Type 0} (f g : X → ℕ) → ((x : X) → f x ≡ g x) → (xs : List X) → map f xs ≡ map g xs
map_same f g same [] = refl
map_same f g same (x ∷ xs) = λ i. same x i ∷ map_same f g same xs i

map_zero : {X : Type 0} (f : X → ℕ) → ((x : X) → f x ≡ 0) → (xs : List X) → map f xs ≡ replicate (length xs) 0
map_zero f none [] = refl
map_zero f none (x ∷ xs) = λ i. none x i ∷ map_zero f none xs i

pub map_sums : {X : Type 0} (f g h : X → ℕ) → ((x : X) → h x ≡ f x + g x) → (xs : List X) → map h xs ≡ sums (map f xs) (map g xs)
map_sums f g h same [] = refl
map_sums f g h same (x ∷ xs) = λ i. same x i ∷ map_sums f g h same xs i

last_there : {X : Type 0} (o : Option X) (xs : List X) (x : X) → last_or o (xs ++ x ∷ []) ≡ Some x
last_there o [] x = refl
last_there o (y ∷ ys) x = last_there (Some y) ys x

-- ---- runs

pub run_none : (f : Features) (bound : Bound) → run f bound [] ≡ replicate (width bound) 0
unfolding run
run_none f bound = map_zero (λ rule. sum_by (λ s. value_at f s rule) []) (λ rule. refl) bound.book.rules

pub run_one : (f : Features) (bound : Bound) (step : Step) → run f bound (step ∷ []) ≡ step_vector f bound step
unfolding run step_vector
run_one f bound step = map_same (λ rule. sum_by (λ s. value_at f s rule) (step ∷ [])) (value_at f step) (λ rule. zero-add (value_at f step rule)) bound.book.rules

pub run_more : (f : Features) (bound : Bound) (steps more : List Step) → run f bound (steps ++ more) ≡ sums (run f bound steps) (run f bound more)
unfolding run
run_more f bound steps more =
    map_sums (λ rule. sum_by (λ s. value_at f s rule) steps) (λ rule. sum_by (λ s. value_at f s rule) more) (λ rule. sum_by (λ s. value_at f s rule) (steps ++ more))
    (λ rule. sum_by-append (λ s. value_at f s rule) steps more) bound.book.rules

pub vector_none : (f : Features) (bound : Bound) → trajectory_vector f bound [] ≡ replicate (width bound) 0
unfolding trajectory_vector
vector_none f bound = map_zero (λ rule. sum_by (λ s. value_at f s rule) [] + end_after f (last_or None []) rule) (λ rule. refl) bound.book.rules

pub vector_whole : (f : Features) (bound : Bound) (steps : List Step) (last : Step) → trajectory_vector f bound (steps ++ last ∷ []) ≡ sums (run f bound (steps ++ last ∷ [])) (end_vector f bound last)
unfolding trajectory_vector run end_vector
vector_whole f bound steps last =
    let all = steps ++ last ∷ [] in
    map_sums (λ rule. sum_by (λ s. value_at f s rule) all) (end_at f last) (λ rule. sum_by (λ s. value_at f s rule) all + end_after f (last_or None all) rule)
    (λ rule. ap (λ (o : Option Step). sum_by (λ s. value_at f s rule) all + end_after f o rule) (last_there None steps last)) bound.book.rules

-- ---- sizes

part_small : (z : ℤ) → part_value z ≤ MAX_PART_VALUE
part_small (pos n) = omega arith
part_small (negsuc n) = omega arith

weighted_small : (f : Features) (v : Valuation) (part : Part) → IsBoundPart f part → weighted v part ≤ MAX_PART_AMOUNT
weighted_small f v part h = weighted_fits part.weight (part_value (value v part.expr)) h.weight (part_small (value v part.expr))

either_small : (b : Bool) (n : ℕ) → n ≤ MAX_PART_AMOUNT → (cond b n 0 ≤ MAX_PART_AMOUNT) × (cond b 0 n ≤ MAX_PART_AMOUNT)
either_small true n h = (h, omega arith)
either_small false n h = (omega arith, h)

pub rule_small : (f : Features) (v : Valuation) (rule : Rule) → IsBoundRule f rule → rule_value v rule.parts ≤ MAX_AMOUNT
rule_small f v rule h =
    let all = sum_by-le (λ part. cond part.at_end 0 (weighted v part)) MAX_PART_AMOUNT rule.parts (λ i part within. (either_small _ _ (weighted_small f v _ (h.parts i part within))).1) in
    omega (arith, all, h.few)

pub end_small : (f : Features) (v : Valuation) (rule : Rule) → IsBoundRule f rule → end_value v rule.parts ≤ MAX_AMOUNT
end_small f v rule h =
    let all = sum_by-le (λ part. cond part.at_end (weighted v part) 0) MAX_PART_AMOUNT rule.parts (λ i part within. (either_small _ _ (weighted_small f v _ (h.parts i part within))).0) in
    omega (arith, all, h.few)

pub width_fits : (f : Features) (bound : Bound) → IsBoundTo f bound → IsWidth (width bound)
width_fits f bound h = (h.some, h.few)

pub step_up_to : (f : Features) (bound : Bound) (step : Step) → IsBoundTo f bound → IsUpTo (width bound) MAX_AMOUNT (step_vector f bound step)
unfolding step_vector
step_up_to f bound step h = record {
  width = length-map bound.book.rules (value_at f step);
  up_to = All-map (λ n. n ≤ MAX_AMOUNT) (value_at f step) bound.book.rules (λ i rule within. rule_small f (at_step f step) _ (h.rules i rule within));
}

pub end_up_to : (f : Features) (bound : Bound) (step : Step) → IsBoundTo f bound → IsUpTo (width bound) MAX_AMOUNT (end_vector f bound step)
unfolding end_vector
end_up_to f bound step h = record {
  width = length-map bound.book.rules (end_at f step);
  up_to = All-map (λ n. n ≤ MAX_AMOUNT) (end_at f step) bound.book.rules (λ i rule within. end_small f _ _ (h.rules i rule within));
}

-- a run of few steps
pub run_up_to : (f : Features) (bound : Bound) (steps : List Step) → IsBoundTo f bound → IsUpTo (width bound) (length steps * MAX_AMOUNT) (run f bound steps)
unfolding run
run_up_to f bound steps h = record {
  width = length-map bound.book.rules (λ rule. sum_by (λ s. value_at f s rule) steps);
  up_to = All-map (λ n. n ≤ length steps * MAX_AMOUNT) (λ rule. sum_by (λ s. value_at f s rule) steps) bound.book.rules
      (λ i rule within. sum_by-le (λ s. value_at f s (get_or bound.book.rules i rule)) MAX_AMOUNT steps (λ j step here. rule_small f (at_step f (get_or steps j step)) (get_or bound.book.rules i rule) (h.rules i rule within)));
}

-- ---- what is added on the way

-- the number at the place of a rule is that of the rule
pub amount_at : (number : BoundRule → ℕ) (own rules : List BoundRule) (rule : BoundRule) (i amount : ℕ) → rules ≡ own → i < length rules → rule ≡ get_or rules i rule → amount ≡ number rule → amount ≡ slice_index (map number own) i
amount_at number own rules rule i amount same within here is =
    let inside : i < length own = omega (arith, within, ap (length {A = BoundRule}) same) in
    is ∙ ap number (here ∙ ap (λ (rs : List BoundRule). get_or rs i rule) same) ∙ sym (get_or-map number own i rule 0 inside)

-- the rule's amount is added at its place
pub rule_added : (count : List BoundPart → ℕ) (own rules : List BoundRule) (rule : BoundRule) (parts : List BoundPart) (amounts old out new : List ℕ) (i amount : ℕ)
    → rules ≡ own → i < length rules → rule ≡ get_or rules i rule → parts ≡ (get_or rules i rule).parts → amount ≡ count parts → map (λ (r : BoundRule). count r.parts) own ≡ amounts
    → out ≡ added i old amounts → i < length old → i < length amounts → new ≡ slice_set out i (slice_index out i + amount) → new ≡ added (i + 1) old amounts
rule_added count own rules rule parts amounts old out new i amount same within here of counted vector before inside there is =
    let value : amount ≡ count rule.parts = counted ∙ ap count of ∙ ap (λ (r : BoundRule). count r.parts) (sym here) in
    let number = amount_at (λ (r : BoundRule). count r.parts) own rules rule i amount same within here value in
    added_one out old amounts new i amount before inside there (number ∙ ap (λ (ns : List ℕ). slice_index ns i) vector) is

-- what is so of each rule is so of the rule at a place
pub at_rule : (P : BoundRule → Type 0) (own rules : List BoundRule) (rule : BoundRule) (i : ℕ) → rules ≡ own → i < length rules → rule ≡ get_or rules i rule → All P own → P rule
at_rule P own rules rule i same within here all =
    let inside : i < length own = omega (arith, within, ap (length {A = BoundRule}) same) in
    subst P (sym (here ∙ ap (λ (rs : List BoundRule). get_or rs i rule) same)) (all i rule inside)

-- after one step more
pub run_next : (f : Features) (bound : Bound) (steps : List Step) (i : ℕ) (d : Step) → i < length steps → sums (run f bound (take i steps)) (step_vector f bound (get_or steps i d)) ≡ run f bound (take (i + 1) steps)
run_next f bound steps i d within =
    let step = get_or steps i d in
    let longer : take (i + 1) steps ≡ take i steps ++ step ∷ [] = take_more steps i d within in
    ap (sums (run f bound (take i steps))) (sym (run_one f bound step)) ∙ sym (run_more f bound (take i steps) (step ∷ [])) ∙ ap (run f bound) (sym longer)

-- a run of at most 2,000 steps has room for one step more, and for an end
pub room_after : (f : Features) (bound : Bound) (steps : List Step) → IsBoundTo f bound → length steps ≤ 2000 → HasRoom MAX_AMOUNT (run f bound steps)
room_after f bound steps h few = λ k d within.
    let small = (run_up_to f bound steps h).up_to k d within in
    let all = mul-le-mul_right MAX_AMOUNT few in
    omega (arith, small, all)

-- the vector of a trajectory, with its last step
pub vector_at_last : (f : Features) (bound : Bound) (steps : List Step) (d : Step) → 0 < length steps → trajectory_vector f bound steps ≡ sums (run f bound steps) (end_vector f bound (get_or steps (length steps - 1) d))
vector_at_last f bound steps d some =
    let last = get_or steps (length steps - 1) d in
    let before = take (length steps - 1) steps in
    let end : length steps - 1 + 1 ≡ length steps = omega (arith, some) in
    let whole : steps ≡ before ++ last ∷ [] = sym (take-length steps) ∙ ap (λ (n : ℕ). take n steps) (sym end) ∙ take_more steps (length steps - 1) d (omega (arith, some)) in
    ap (trajectory_vector f bound) whole ∙ vector_whole f bound before last ∙ ap (λ (ss : List Step). sums (run f bound ss) (end_vector f bound last)) (sym whole)

pub vector_of_none : (f : Features) (bound : Bound) (steps : List Step) → length steps ≡ 0 → run f bound steps ≡ trajectory_vector f bound steps
vector_of_none f bound [] e = run_none f bound ∙ sym (vector_none f bound)
vector_of_none f bound (step ∷ steps) e = absurd (omega arith)

pub steps_within : (steps : List Step) (i : ℕ) → length steps ≤ 2000 → length (take i steps) ≤ 2000
steps_within steps i few = omega (arith, few, length-take i steps)

pub run_after : (f : Features) (bound : Bound) (steps : List Step) (i : ℕ) (d : Step) (vector new : List ℕ) → new ≡ sums vector (step_vector f bound (get_or steps i d)) → vector ≡ run f bound (take i steps) → i < length steps → new ≡ run f bound (take (i + 1) steps)
run_after f bound steps i d vector new is before within = is ∙ ap (λ (xs : List ℕ). sums xs (step_vector f bound (get_or steps i d))) before ∙ run_next f bound steps i d within

pub vector_after : (f : Features) (bound : Bound) (steps : List Step) (d : Step) (vector new : List ℕ) → new ≡ sums vector (end_vector f bound (get_or steps (length steps - 1) d)) → vector ≡ run f bound steps → 0 < length steps → new ≡ trajectory_vector f bound steps
vector_after f bound steps d vector new is before some = is ∙ ap (λ (xs : List ℕ). sums xs (end_vector f bound (get_or steps (length steps - 1) d))) before ∙ sym (vector_at_last f bound steps d some)
