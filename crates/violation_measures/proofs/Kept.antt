-- The interval that is worked out is there exactly where no subexpression's interval passes 10^18, and is the interval of the expression.
use Rattle.std.proofs.Common.{◌≡◌, ◌≤◌, ◌^◌, ◌&&◌, Bool, true, false, cond, pos, negsuc, Option, Some, None, refl, sym, subst, ◌∙◌, arith}
use Rattle.std.specs.Prelude.{int_lt, nat_le}
use Rattle.std.proofs.lemmas.Bool.Decides.{nat_tests}
use Rattle.expressions.specs.declared.tree.Expr.{Expr}
use Rattle.expressions.specs.declared.tree.Expr.TheViews.{roll-Expr}
use Rattle.expressions.specs.declared.tree.Expr.TheOpen.{Expr-F}
use Rattle.expressions.specs.declared.tree.Expr.TheFolds.{fold-roll-Expr, ind-Expr, map-Expr, para-roll-Expr}
use Rattle.expressions.specs.Written.{is_from_to, is_well_formed, well_formed_step}
use Rattle.reading.proofs.Truth.{both}
use Rattle.scenario_model.specs.declared.problem.Span.{Span}
use Rattle.violation_measures.specs.Intervals.{Bounds, from_to, absolute, product, interval, interval_step, keeps, every, keeps_step, all_keep}
use Rattle.violation_measures.specs.Ranges.{on_one, on_two, negated, summed, differing, lesser, greater, hull, choice, quotients, ranged, ranged_step}

-- the interval where the test passes
abbrev if_so : Bool → Span → Option Span
if_so b i = cond b (Some i) None

and_true : (b : Bool) (i : Span) → if_so b i ≡ if_so (b && true) i
and_true true i = refl
and_true false i = refl

and_false : (b : Bool) (i : Span) → None ≡ if_so (b && false) i
and_false true i = refl
and_false false i = refl

one : (f : Span → Span) (ka : Bool) (a : Span) → on_one f (if_so ka a) ≡ if_so (keeps (f a) && ka) (f a)
one f true a = and_true (keeps (f a)) (f a)
one f false a = and_false (keeps (f a)) (f a)

two : (f : Span → Span → Span) (ka kb : Bool) (a b : Span) → on_two f (if_so ka a) (if_so kb b) ≡ if_so (keeps (f a b) && (ka && kb)) (f a b)
two f true true a b = and_true (keeps (f a b)) (f a b)
two f true false a b = and_false (keeps (f a b)) (f a b)
two f false kb a b = and_false (keeps (f a b)) (f a b)

three : (ka kb kc : Bool) (a b c : Span) → choice (if_so ka a) (if_so kb b) (if_so kc c) ≡ if_so (keeps (hull b c) && (ka && (kb && kc))) (hull b c)
three true kb kc a b c = two hull kb kc b c
three false kb kc a b c = and_false (keeps (hull b c)) (hull b c)

module _ (bounds : Bounds) where
  Holds : Expr → Type 0
  Holds e = is_well_formed e ≡ true → ranged bounds e ≡ if_so (all_keep bounds e) (interval bounds e)

  LayerHolds : Expr-F Expr → Type 0
  LayerHolds x = well_formed_step (map-Expr Expr Bool is_well_formed x) ≡ true
      → ranged_step bounds (map-Expr Expr (Option Span) (ranged bounds) x)
      ≡ if_so (keeps (interval_step bounds (map-Expr Expr Span (interval bounds) x)) && every (map-Expr Expr Bool (all_keep bounds) x)) (interval_step bounds (map-Expr Expr Span (interval bounds) x))

  at_layer : (x : Expr-F Expr) → keeps_step bounds (map-Expr Expr (Expr × Bool) (λ e. (e, all_keep bounds e)) x) ≡ (keeps (interval_step bounds (map-Expr Expr Span (interval bounds) x)) && every (map-Expr Expr Bool (all_keep bounds) x))
  at_layer (Expr-F.Const n) = refl
  at_layer (Expr-F.Feature name argument) = refl
  at_layer (Expr-F.Neg a) = refl
  at_layer (Expr-F.Abs a) = refl
  at_layer (Expr-F.Add a b) = refl
  at_layer (Expr-F.Sub a b) = refl
  at_layer (Expr-F.Mul a b) = refl
  at_layer (Expr-F.Min a b) = refl
  at_layer (Expr-F.Max a b) = refl
  at_layer (Expr-F.If a b c) = refl
  at_layer (Expr-F.Div a n) = refl

  settled : (x : Expr-F Expr) → LayerHolds x → Holds (roll-Expr x)
  unfolding Holds LayerHolds
  settled x h good =
      let f : well_formed_step (map-Expr Expr Bool is_well_formed x) ≡ true = sym (fold-roll-Expr Bool well_formed_step x) ∙ good in
      let whole : all_keep bounds (roll-Expr x) ≡ (keeps (interval_step bounds (map-Expr Expr Span (interval bounds) x)) && every (map-Expr Expr Bool (all_keep bounds) x)) = para-roll-Expr Bool (keeps_step bounds) x ∙ at_layer x in
      fold-roll-Expr (Option Span) (ranged_step bounds) x ∙ h f ∙ (λ i. if_so (sym whole i) (sym (fold-roll-Expr Span (interval_step bounds) x) i))

  layer : (x : Expr-F ((a : Expr) × Holds a)) → LayerHolds (map-Expr ((a : Expr) × Holds a) Expr (λ p. p.0) x)
  unfolding Holds LayerHolds
  layer (Expr-F.Const n) good = and_true (keeps (from_to n n)) (from_to n n)
  layer (Expr-F.Feature name argument) good = and_true (keeps (bounds name argument)) (bounds name argument)
  layer (Expr-F.Neg a) good = rw (a.1 good) (one negated (all_keep bounds a.0) (interval bounds a.0))
  layer (Expr-F.Abs a) good = rw (a.1 good) (one absolute (all_keep bounds a.0) (interval bounds a.0))
  layer (Expr-F.Add a b) good = let g = both (is_well_formed a.0) (is_well_formed b.0) good in rw (a.1 g.0, b.1 g.1) (two summed (all_keep bounds a.0) (all_keep bounds b.0) (interval bounds a.0) (interval bounds b.0))
  layer (Expr-F.Sub a b) good = let g = both (is_well_formed a.0) (is_well_formed b.0) good in rw (a.1 g.0, b.1 g.1) (two differing (all_keep bounds a.0) (all_keep bounds b.0) (interval bounds a.0) (interval bounds b.0))
  layer (Expr-F.Mul a b) good = let g = both (is_well_formed a.0) (is_well_formed b.0) good in rw (a.1 g.0, b.1 g.1) (two product (all_keep bounds a.0) (all_keep bounds b.0) (interval bounds a.0) (interval bounds b.0))
  layer (Expr-F.Min a b) good = let g = both (is_well_formed a.0) (is_well_formed b.0) good in rw (a.1 g.0, b.1 g.1) (two lesser (all_keep bounds a.0) (all_keep bounds b.0) (interval bounds a.0) (interval bounds b.0))
  layer (Expr-F.Max a b) good = let g = both (is_well_formed a.0) (is_well_formed b.0) good in rw (a.1 g.0, b.1 g.1) (two greater (all_keep bounds a.0) (all_keep bounds b.0) (interval bounds a.0) (interval bounds b.0))
  layer (Expr-F.If a b c) good =
      let g = both (is_well_formed a.0) (is_well_formed b.0 && is_well_formed c.0) good in
      let h = both (is_well_formed b.0) (is_well_formed c.0) g.1 in
      rw (a.1 g.0, b.1 h.0, c.1 h.1) (three (all_keep bounds a.0) (all_keep bounds b.0) (all_keep bounds c.0) (interval bounds a.0) (interval bounds b.0) (interval bounds c.0))
  layer (Expr-F.Div a (pos n)) good =
      let g = both (is_well_formed a.0) (is_from_to 1 (10 ^ 9) (pos n)) good in
      let t = both (nat_le 1 n) (nat_le n (10 ^ 9)) g.1 in
      let some : 1 ≤ n = grind (arith, nat_tests, t.0) in
      let positive : int_lt (pos 0) (pos n) ≡ true = grind (arith, nat_tests, some) in
      rw (a.1 g.0, positive) (one (quotients (pos n)) (all_keep bounds a.0) (interval bounds a.0))
  layer (Expr-F.Div a (negsuc n)) good = absurd (let g = (both (is_well_formed a.0) (is_from_to 1 (10 ^ 9) (negsuc n)) good).1 in cc)

  pub kept_is : (e : Expr) → is_well_formed e ≡ true → ranged bounds e ≡ if_so (all_keep bounds e) (interval bounds e)
  unfolding Holds
  kept_is = ind-Expr Holds (λ x y is. subst (λ (z : Expr-F Expr). Holds (roll-Expr z)) is (settled (map-Expr ((a : Expr) × Holds a) Expr (λ p. p.0) y) (layer y)))

there : (b : Bool) (i j : Span) → Some i ≡ if_so b j → b ≡ true
there true i j e = refl
there false i j e = absurd cc

nowhere : (b : Bool) (j : Span) → None ≡ if_so b j → b ≡ true → ⊥
nowhere true j e t = cc
nowhere false j e t = cc

pub keeps_where_some : (bounds : Bounds) (e : Expr) (i : Span) → is_well_formed e ≡ true → Some i ≡ ranged bounds e → all_keep bounds e ≡ true
keeps_where_some bounds e i good is = there (all_keep bounds e) i (interval bounds e) (is ∙ kept_is bounds e good)

pub passes_where_none : (bounds : Bounds) (e : Expr) → is_well_formed e ≡ true → None ≡ ranged bounds e → all_keep bounds e ≡ true → ⊥
passes_where_none bounds e good is = nowhere (all_keep bounds e) (interval bounds e) (is ∙ kept_is bounds e good)
