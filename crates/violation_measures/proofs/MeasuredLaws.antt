-- The features that are measured once a step are known, few, and stand at their places.
use Rattle.std.proofs.Common.{◌≡◌, ℕ, ◌≤◌, ◌==◌, Bool, true, false, cond, ℤ, List, [], ◌∷◌, ◌++◌, length, get_or, refl, sym, ap, subst, ◌∙◌, arith, Option, None, Some}
use Rattle.std.specs.Prelude.{All}
use Rattle.std.specs.List.{flat_map}
use Rattle.std.proofs.lemmas.Bool.Decides.{Decides-eqb}
use Rattle.std.proofs.lemmas.List.Concat.{flat_map-cons}
use Rattle.std.proofs.lemmas.List.Elements.{All-nil, All-cons, All-append}
use Rattle.std.proofs.lemmas.List.Quantifiers.{position-Some}
use Rattle.expressions.specs.declared.tree.Argument.{Argument}
use Rattle.expressions.specs.declared.tree.Expr.{Expr}
use Rattle.expressions.specs.declared.tree.Expr.TheViews.{roll-Expr}
use Rattle.expressions.specs.declared.tree.Expr.TheOpen.{Expr-F}
use Rattle.expressions.specs.declared.tree.Expr.TheFolds.{fold-roll-Expr, ind-Expr, map-Expr}
use Rattle.rule_language.specs.declared.book.Rule.{Rule}
use Rattle.rule_language.specs.declared.part.Part.{Part}
use Rattle.violation_measures.specs.Measured.{number_found, numbers_step, numbers, is_of_kind, part_numbers, rule_numbers, used_by, measured_at, IsMeasured}
use Rattle.violation_measures.specs.Sources.{Features, IsKnown, at_step, value_found}
use Rattle.violation_measures.specs.declared.step.Step.{Step}
use Rattle.violation_measures.specs.declared.used.TheConstants.{MAX_MEASURED}
use Rattle.violation_measures.proofs.FormulaLaws.{Stands}
use Rattle.violation_measures.proofs.NotedLaws.{few_folded, all_folded}

-- ---- they are known

module _ (f : Features) where
  all_over : {X : Type 0} (g : X → List ℕ) → ((x : X) → All (IsKnown f) (g x)) → (xs : List X) → All (IsKnown f) (flat_map g xs)
  all_over g each [] = All-nil (IsKnown f)
  all_over g each (x ∷ xs) = subst (λ (ns : List ℕ). All (IsKnown f) ns) (sym (flat_map-cons g x xs)) (All-append (IsKnown f) (g x) (flat_map g xs) (each x) (all_over g each xs))

  found_known : (name : List ℕ) (argument : Option Argument) (found : Option ℕ) → f.find name argument ≡ found → All (IsKnown f) (number_found found)
  found_known name argument None e = All-nil (IsKnown f)
  found_known name argument (Some n) e = All-cons (IsKnown f) n [] (name, argument, e) (All-nil (IsKnown f))

  Holds : Expr → Type 0
  Holds e = All (IsKnown f) (numbers f.find e)

  both_known : (a b : Expr) → Holds a → Holds b → All (IsKnown f) (numbers f.find a ++ numbers f.find b)
  unfolding Holds
  both_known a b h k = All-append (IsKnown f) (numbers f.find a) (numbers f.find b) h k

  LayerHolds : Expr-F Expr → Type 0
  LayerHolds x = All (IsKnown f) (numbers_step f.find (map-Expr Expr (List ℕ) (numbers f.find) x))

  settled : (x : Expr-F Expr) → LayerHolds x → Holds (roll-Expr x)
  unfolding Holds LayerHolds
  settled x h = subst (λ (ns : List ℕ). All (IsKnown f) ns) (sym (fold-roll-Expr (List ℕ) (numbers_step f.find) x)) h

  layer : (x : Expr-F ((a : Expr) × Holds a)) → LayerHolds (map-Expr ((a : Expr) × Holds a) Expr (λ p. p.0) x)
  unfolding Holds LayerHolds
  layer (Expr-F.Const n) = All-nil (IsKnown f)
  layer (Expr-F.Feature name argument) = found_known name argument (f.find name argument) refl
  layer (Expr-F.Neg a) = a.1
  layer (Expr-F.Abs a) = a.1
  layer (Expr-F.Add a b) = both_known a.0 b.0 a.1 b.1
  layer (Expr-F.Sub a b) = both_known a.0 b.0 a.1 b.1
  layer (Expr-F.Mul a b) = both_known a.0 b.0 a.1 b.1
  layer (Expr-F.Min a b) = both_known a.0 b.0 a.1 b.1
  layer (Expr-F.Max a b) = both_known a.0 b.0 a.1 b.1
  layer (Expr-F.If a b c) = All-append (IsKnown f) (numbers f.find a.0) (numbers f.find b.0 ++ numbers f.find c.0) a.1 (both_known b.0 c.0 b.1 c.1)
  layer (Expr-F.Div a n) = a.1

  numbers_known : (e : Expr) → All (IsKnown f) (numbers f.find e)
  unfolding Holds
  numbers_known = ind-Expr Holds (λ x y is. subst (λ (z : Expr-F Expr). Holds (roll-Expr z)) is (settled (map-Expr ((a : Expr) × Holds a) Expr (λ p. p.0) y) (layer y)))

  known_if : (b : Bool) (e : Expr) → All (IsKnown f) (cond b (numbers f.find e) [])
  known_if true e = numbers_known e
  known_if false e = All-nil (IsKnown f)

  pub used_known : (at_end : Bool) (rules : List Rule) → All (IsKnown f) (used_by f.find at_end rules)
  unfolding used_by
  used_known at_end rules =
      all_folded (IsKnown f) (rule_numbers f.find at_end rules) [] (All-nil (IsKnown f))
      (all_over (λ (rule : Rule). part_numbers f.find at_end rule.parts) (λ rule. all_over (λ (part : Part). cond (is_of_kind at_end part) (numbers f.find part.expr) []) (λ part. known_if (is_of_kind at_end part) part.expr) rule.parts) rules)

  pub used_few : (at_end : Bool) (rules : List Rule) → length (used_by f.find at_end rules) ≤ MAX_MEASURED
  unfolding used_by
  used_few at_end rules = few_folded (rule_numbers f.find at_end rules) [] (omega arith)

  -- ---- they stand at their places

  pub stands : (step : Step) (used : List ℕ) (values : List ℤ) → IsMeasured f step used values → Stands (measured_at values) (at_step f step) f.find used
  unfolding Stands
  stands step used values h = λ name argument n place found at.
      let there = position-Some (λ m. m == n) used place 0 at in
      let same : get_or used place 0 ≡ n = (Decides-eqb (get_or used place 0) n).0 there.1 in
      h.each place there.0 ∙ ap (λ (m : ℕ). f.value m step) same ∙ ap (value_found (λ m. f.value m step)) (sym found)
