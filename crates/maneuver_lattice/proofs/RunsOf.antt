-- What the steps of trajectories amount to, one after the other.
use Rattle.std.proofs.Common.{◌≡◌, ℕ, zero, suc, ◌+◌, ◌*◌, ◌^◌, ◌<◌, ◌≤◌, List, [], ◌∷◌, ◌++◌, length, replicate, Option, Some, None, refl, sym, ap, ◌∙◌, arith}
use Rattle.std.specs.List.{sum_by, last_or}
use Rattle.std.specs.Option.{option_map}
use Rattle.std.proofs.lemmas.List.Elements.{All-head, All-tail, All-cons, All-nil}
use Rattle.rule_language.specs.declared.book.Rule.{Rule}
use Rattle.rulebook_order.specs.StepGraph.{AllUpTo, HasRoom}
use Rattle.rulebook_order.specs.Sums.{sums}
use Rattle.rulebook_order.specs.laws.SumLaws.{length-sums}
use Rattle.violation_measures.specs.Amounts.{end_value}
use Rattle.violation_measures.specs.Binding.{IsBoundTo}
use Rattle.violation_measures.specs.Sources.{Features, at_step}
use Rattle.violation_measures.specs.Steps.{finish}
use Rattle.violation_measures.specs.Vectors.{width, value_at, end_at, end_after, step_vector, end_vector, run, trajectory_vector}
use Rattle.violation_measures.specs.declared.bound.Bound.{Bound}
use Rattle.violation_measures.specs.declared.step.Step.{Step}
use Rattle.violation_measures.proofs.VectorLaws.{map_sums, run_none, run_one, run_more, run_up_to}

pub sums-assoc : (xs ys zs : List ℕ) → sums (sums xs ys) zs ≡ sums xs (sums ys zs)
sums-assoc [] ys zs = refl
sums-assoc (x ∷ xs) [] zs = refl
sums-assoc (x ∷ xs) (y ∷ ys) [] = refl
sums-assoc (x ∷ xs) (y ∷ ys) (z ∷ zs) = let e : (x + y) + z ≡ x + (y + z) = omega arith in rw (e, sums-assoc xs ys zs) refl

-- what is added takes its room
pub room_after : (a b : ℕ) (xs ys : List ℕ) → AllUpTo b ys → HasRoom (a + b) xs → HasRoom a (sums xs ys)
room_after a b [] ys up room = All-nil (λ x. x + a < 2 ^ 64)
room_after a b (x ∷ xs) [] up room = All-nil (λ x. x + a < 2 ^ 64)
room_after a b (x ∷ xs) (y ∷ ys) up room =
    let here = All-head (λ x. x + (a + b) < 2 ^ 64) x xs room in
    let small = All-head (λ y. y ≤ b) y ys up in
    All-cons (λ x. x + a < 2 ^ 64) (x + y) (sums xs ys) (omega arith) (room_after a b xs ys (All-tail (λ y. y ≤ b) y ys up) (All-tail (λ x. x + (a + b) < 2 ^ 64) x xs room))

-- zeros add nothing
adds_none : (n : ℕ) (v : List ℕ) → length v ≡ n → sums v (replicate n 0) ≡ v
adds_none zero [] long = refl
adds_none zero (x ∷ v) long = absurd (omega arith)
adds_none (suc n) [] long = absurd (omega arith)
adds_none (suc n) (x ∷ v) long = let z : x + 0 ≡ x = omega arith in rw (adds_none n v (omega arith), z) refl

module _ (f : Features) (bound : Bound) where
  pub adds_no_steps : (v : List ℕ) → length v ≡ width bound → sums v (run f bound []) ≡ v
  adds_no_steps v long = ap (sums v) (run_none f bound) ∙ adds_none (width bound) v long

  pub run_first : (step : Step) (steps : List Step) → run f bound (step ∷ steps) ≡ sums (step_vector f bound step) (run f bound steps)
  run_first step steps = run_more f bound (step ∷ []) steps ∙ ap (λ (v : List ℕ). sums v (run f bound steps)) (run_one f bound step)

  pub keeps_width : IsBoundTo f bound → (v : List ℕ) (steps : List Step) → length v ≡ width bound → length (sums v (run f bound steps)) ≡ width bound
  keeps_width bound_to v steps long = length-sums v (run f bound steps) (long ∙ sym (run_up_to f bound steps bound_to).width) ∙ long

  end_same : (o : Option Step) (e : Step) (rule : Rule) → option_map finish o ≡ Some e → finish e ≡ e → end_after f o rule ≡ end_at f e rule
  end_same None e rule h same = absurd cc
  end_same (Some last) e rule h same =
      let ends : finish last ≡ finish e = (let k : finish last ≡ e = cc in k ∙ sym same) in
      ap (λ (s : Step). end_value (at_step f s) rule.parts) ends

  -- a trajectory's vector is its run, and what the end adds
  pub vector_is : (steps : List Step) (e : Step) → option_map finish (last_or None steps) ≡ Some e → finish e ≡ e → trajectory_vector f bound steps ≡ sums (run f bound steps) (end_vector f bound e)
  unfolding trajectory_vector run end_vector
  vector_is steps e h same =
      map_sums (λ rule. sum_by (λ step. value_at f step rule) steps) (end_at f e) (λ rule. sum_by (λ step. value_at f step rule) steps + end_after f (last_or None steps) rule)
      (λ rule. ap (λ (n : ℕ). sum_by (λ step. value_at f step rule) steps + n) (end_same (last_or None steps) e rule h same)) bound.book.rules
