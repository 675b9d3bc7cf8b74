-- Where the interval of no subexpression passes 10^18, no value on the way does.
use Rattle.std.proofs.Common.{◌≡◌, ℕ, ◌≤◌, ◌^◌, ◌&&◌, Bool, true, ℤ, pos, negsuc, ◌≤ℤ◌, List, Option, Some, refl, sym, ap, subst, ◌∙◌, arith}
use Rattle.std.specs.Prelude.{int_lt, unsigned_abs, nat_le}
use Rattle.std.proofs.lemmas.Int.{ints}
use Rattle.std.proofs.lemmas.Bool.Decides.{nat_tests}
use Rattle.expressions.specs.declared.tree.Argument.{Argument}
use Rattle.expressions.specs.declared.tree.Expr.{Expr}
use Rattle.expressions.specs.declared.tree.Expr.TheViews.{roll-Expr}
use Rattle.expressions.specs.declared.tree.Expr.TheOpen.{Expr-F}
use Rattle.expressions.specs.declared.tree.Expr.TheFolds.{fold-roll-Expr, ind-Expr, map-Expr, para-roll-Expr}
use Rattle.expressions.specs.Written.{is_from_to, is_well_formed, well_formed_step}
use Rattle.reading.proofs.Truth.{both}
use Rattle.violation_measures.specs.Values.{Valuation, value, value_step}
use Rattle.scenario_model.specs.declared.problem.Span.{Span}
use Rattle.violation_measures.specs.Intervals.{IsIn, Bounds, interval, interval_step, is_small, keeps, every, keeps_step, all_keep}
use Rattle.violation_measures.specs.Checked.{checked_step, checked_value}
use Rattle.violation_measures.proofs.Lies.{lies}

small_size : (low high x : ℤ) → unsigned_abs low ≤ 10 ^ 18 → unsigned_abs high ≤ 10 ^ 18 → low ≤ℤ x → x ≤ℤ high → unsigned_abs x ≤ 10 ^ 18
small_size low (pos m) (pos n) h k above below = omega (arith, ints, k, below)
small_size low (negsuc m) (pos n) h k above below = absurd (omega (arith, ints, below))
small_size (negsuc l) high (negsuc n) h k above below = omega (arith, ints, h, above)
small_size (pos l) high (negsuc n) h k above below = absurd (omega (arith, ints, above))

small_in : (i : Span) (x : ℤ) → keeps i ≡ true → IsIn i x → is_small x ≡ true
small_in i x e h =
    let t = both (is_small i.low) (is_small i.high) e in
    let low : unsigned_abs i.low ≤ 10 ^ 18 = grind (arith, nat_tests, t.0) in
    let high : unsigned_abs i.high ≤ 10 ^ 18 = grind (arith, nat_tests, t.1) in
    let size = small_size i.low i.high x low high h.above h.below in
    grind (arith, nat_tests, size)

module _ (feature : Valuation) (bounds : Bounds) (within : (name : List ℕ) (argument : Option Argument) → IsIn (bounds name argument) (feature name argument)) where
  Holds : Expr → Type 0
  Holds e = is_well_formed e ≡ true → all_keep bounds e ≡ true → checked_value feature e ≡ Some (value feature e)

  LayerHolds : Expr-F Expr → Type 0
  LayerHolds x = well_formed_step (map-Expr Expr Bool is_well_formed x) ≡ true → every (map-Expr Expr Bool (all_keep bounds) x) ≡ true
      → is_small (value_step feature (map-Expr Expr ℤ (value feature) x)) ≡ true
      → checked_step feature (map-Expr Expr (Option ℤ) (checked_value feature) x) ≡ Some (value_step feature (map-Expr Expr ℤ (value feature) x))

  -- what all_keep says of one operation
  record Kept (x : Expr-F Expr) : Type 0 where
    own : keeps (interval bounds (roll-Expr x)) ≡ true
    parts : every (map-Expr Expr Bool (all_keep bounds) x) ≡ true

  at_layer : (x : Expr-F Expr) → keeps_step bounds (map-Expr Expr (Expr × Bool) (λ e. (e, all_keep bounds e)) x) ≡ (keeps (interval_step bounds (map-Expr Expr Span (interval bounds) x)) && every (map-Expr Expr Bool (all_keep bounds) x))
  at_layer (Expr-F.Const n) = refl
  at_layer (Expr-F.Feature name argument) = refl
  at_layer (Expr-F.Neg a) = refl
  at_layer (Expr-F.Abs a) = refl
  at_layer (Expr-F.Add a b) = refl
  at_layer (Expr-F.Sub a b) = refl
  at_layer (Expr-F.Mul a b) = refl
  at_layer (Expr-F.Min a b) = refl
  at_layer (Expr-F.Max a b) = refl
  at_layer (Expr-F.If a b c) = refl
  at_layer (Expr-F.Div a n) = refl

  kept : (x : Expr-F Expr) → all_keep bounds (roll-Expr x) ≡ true → Kept x
  kept x e =
      let k = both (keeps (interval_step bounds (map-Expr Expr Span (interval bounds) x))) (every (map-Expr Expr Bool (all_keep bounds) x)) (sym (at_layer x) ∙ sym (para-roll-Expr Bool (keeps_step bounds) x) ∙ e) in
      record { own = ap keeps (fold-roll-Expr Span (interval_step bounds) x) ∙ k.0; parts = k.1 }

  settled : (x : Expr-F Expr) → LayerHolds x → Holds (roll-Expr x)
  unfolding Holds LayerHolds
  settled x h good keep =
      let k = kept x keep in
      let f : well_formed_step (map-Expr Expr Bool is_well_formed x) ≡ true = sym (fold-roll-Expr Bool well_formed_step x) ∙ good in
      let whole : is_small (value feature (roll-Expr x)) ≡ true = small_in (interval bounds (roll-Expr x)) (value feature (roll-Expr x)) k.own (lies feature bounds within (roll-Expr x) good) in
      let small : is_small (value_step feature (map-Expr Expr ℤ (value feature) x)) ≡ true = sym (ap is_small (fold-roll-Expr ℤ (value_step feature) x)) ∙ whole in
      rw (fold-roll-Expr (Option ℤ) (checked_step feature) x, fold-roll-Expr ℤ (value_step feature) x) (h f k.parts small)

  layer : (x : Expr-F ((a : Expr) × Holds a)) → LayerHolds (map-Expr ((a : Expr) × Holds a) Expr (λ p. p.0) x)
  unfolding Holds LayerHolds
  layer (Expr-F.Const n) good keep small = rw small refl
  layer (Expr-F.Feature name argument) good keep small = rw small refl
  layer (Expr-F.Neg a) good keep small = rw (a.1 good keep, small) refl
  layer (Expr-F.Abs a) good keep small = rw (a.1 good keep, small) refl
  layer (Expr-F.Add a b) good keep small = let g = both (is_well_formed a.0) (is_well_formed b.0) good in let k = both (all_keep bounds a.0) (all_keep bounds b.0) keep in rw (a.1 g.0 k.0, b.1 g.1 k.1, small) refl
  layer (Expr-F.Sub a b) good keep small = let g = both (is_well_formed a.0) (is_well_formed b.0) good in let k = both (all_keep bounds a.0) (all_keep bounds b.0) keep in rw (a.1 g.0 k.0, b.1 g.1 k.1, small) refl
  layer (Expr-F.Mul a b) good keep small = let g = both (is_well_formed a.0) (is_well_formed b.0) good in let k = both (all_keep bounds a.0) (all_keep bounds b.0) keep in rw (a.1 g.0 k.0, b.1 g.1 k.1, small) refl
  layer (Expr-F.Min a b) good keep small = let g = both (is_well_formed a.0) (is_well_formed b.0) good in let k = both (all_keep bounds a.0) (all_keep bounds b.0) keep in rw (a.1 g.0 k.0, b.1 g.1 k.1, small) refl
  layer (Expr-F.Max a b) good keep small = let g = both (is_well_formed a.0) (is_well_formed b.0) good in let k = both (all_keep bounds a.0) (all_keep bounds b.0) keep in rw (a.1 g.0 k.0, b.1 g.1 k.1, small) refl
  layer (Expr-F.If a b c) good keep small =
      let g = both (is_well_formed a.0) (is_well_formed b.0 && is_well_formed c.0) good in
      let h = both (is_well_formed b.0) (is_well_formed c.0) g.1 in
      let k = both (all_keep bounds a.0) (all_keep bounds b.0 && all_keep bounds c.0) keep in
      let l = both (all_keep bounds b.0) (all_keep bounds c.0) k.1 in
      rw (a.1 g.0 k.0, b.1 h.0 l.0, c.1 h.1 l.1, small) refl
  layer (Expr-F.Div a (pos n)) good keep small =
      let g = both (is_well_formed a.0) (is_from_to 1 (10 ^ 9) (pos n)) good in
      let t = both (nat_le 1 n) (nat_le n (10 ^ 9)) g.1 in
      let some : 1 ≤ n = grind (arith, nat_tests, t.0) in
      let positive : int_lt (pos 0) (pos n) ≡ true = grind (arith, nat_tests, some) in
      rw (a.1 g.0 keep, positive, small) refl
  layer (Expr-F.Div a (negsuc n)) good keep small = absurd (let g = (both (is_well_formed a.0) (is_from_to 1 (10 ^ 9) (negsuc n)) good).1 in cc)

  pub exact : (e : Expr) → is_well_formed e ≡ true → all_keep bounds e ≡ true → checked_value feature e ≡ Some (value feature e)
  unfolding Holds
  exact = ind-Expr Holds (λ x y is. subst (λ (z : Expr-F Expr). Holds (roll-Expr z)) is (settled (map-Expr ((a : Expr) × Holds a) Expr (λ p. p.0) y) (layer y)))
