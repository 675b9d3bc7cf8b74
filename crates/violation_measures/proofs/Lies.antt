-- The value of an expression lies in its interval.
use Rattle.std.proofs.Common.{◌≡◌, ℕ, suc, ◌/◌, ◌≤◌, ◌<◌, ◌^◌, ◌&&◌, Bool, true, false, cond, ℤ, pos, negsuc, ◌+ℤ◌, ◌-ℤ◌, ◌*ℤ◌, ◌≤ℤ◌, neg_ℤ, List, Option, refl, sym, subst, ◌∙◌, arith}
use Rattle.std.specs.Prelude.{int_div, int_le, int_lt, unsigned_abs, nat_le}
use Rattle.std.specs.Int.{int_min, int_max}
use Rattle.std.proofs.lemmas.Int.{ints, clamps}
use Rattle.std.proofs.lemmas.Bool.Decides.{nat_tests}
use Rattle.std.proofs.Math.Nat.{mul-le-mul_left, le-div_iff_mul-le, div-mul-le_self}
use Rattle.std.proofs.Math.IntN.{*ℤ_comm}
use Rattle.expressions.specs.declared.tree.Argument.{Argument}
use Rattle.expressions.specs.declared.tree.Expr.{Expr}
use Rattle.expressions.specs.declared.tree.Expr.TheViews.{roll-Expr}
use Rattle.expressions.specs.declared.tree.Expr.TheOpen.{Expr-F}
use Rattle.expressions.specs.declared.tree.Expr.TheFolds.{fold-roll-Expr, ind-Expr, map-Expr}
use Rattle.expressions.specs.Written.{is_from_to, is_well_formed, well_formed_step}
use Rattle.reading.proofs.Truth.{both}
use Rattle.violation_measures.specs.Values.{Valuation, value, value_step}
use Rattle.scenario_model.specs.declared.problem.Span.{Span}
use Rattle.violation_measures.specs.Intervals.{IsIn, Bounds, from_to, absolute, product, interval, interval_step}

-- ---- each operation keeps to its interval

neg_in : (a : Span) (x : ℤ) → IsIn a x → IsIn (from_to (neg_ℤ a.high) (neg_ℤ a.low)) (neg_ℤ x)
neg_in a x h = record { above = omega (arith, ints, h.above, h.below); below = omega (arith, ints, h.above, h.below) }

add_in : (a b : Span) (x y : ℤ) → IsIn a x → IsIn b y → IsIn (from_to (a.low +ℤ b.low) (a.high +ℤ b.high)) (x +ℤ y)
add_in a b x y h k = record { above = omega (arith, ints, h.above, k.above); below = omega (arith, ints, h.below, k.below) }

sub_in : (a b : Span) (x y : ℤ) → IsIn a x → IsIn b y → IsIn (from_to (a.low -ℤ b.high) (a.high -ℤ b.low)) (x -ℤ y)
sub_in a b x y h k = record { above = omega (arith, ints, h.above, k.below); below = omega (arith, ints, h.below, k.above) }

min_in : (a b : Span) (x y : ℤ) → IsIn a x → IsIn b y → IsIn (from_to (int_min a.low b.low) (int_min a.high b.high)) (int_min x y)
min_in a b x y h k = record { above = omega (arith, ints, clamps, h.above, k.above); below = omega (arith, ints, clamps, h.below, k.below) }

max_in : (a b : Span) (x y : ℤ) → IsIn a x → IsIn b y → IsIn (from_to (int_max a.low b.low) (int_max a.high b.high)) (int_max x y)
max_in a b x y h k = record { above = omega (arith, ints, clamps, h.above, k.above); below = omega (arith, ints, clamps, h.below, k.below) }

choice_in : (b c : Span) (t : Bool) (y z : ℤ) → IsIn b y → IsIn c z → IsIn (from_to (int_min b.low c.low) (int_max b.high c.high)) (cond t y z)
choice_in b c true y z h k = record { above = omega (arith, ints, clamps, h.above); below = omega (arith, ints, clamps, h.below) }
choice_in b c false y z h k = record { above = omega (arith, ints, clamps, k.above); below = omega (arith, ints, clamps, k.below) }

abs_case : (a : Span) (x : ℤ) (s t : Bool) → int_le (pos 0) a.low ≡ s → int_le a.high (pos 0) ≡ t → IsIn a x
    → IsIn (cond s a (cond t (from_to (neg_ℤ a.high) (neg_ℤ a.low)) (from_to (pos 0) (int_max (neg_ℤ a.low) a.high)))) (pos (unsigned_abs x))
abs_case a (pos n) true t e f h = h
abs_case a (negsuc n) true t e f h = absurd (omega (arith, ints, e, h.above))
abs_case a (pos n) false true e f h = record { above = omega (arith, ints, h.above, h.below, f); below = omega (arith, ints, h.above, h.below, f) }
abs_case a (negsuc n) false true e f h = record { above = omega (arith, ints, h.above, h.below, f); below = omega (arith, ints, h.above, h.below, f) }
abs_case a (pos n) false false e f h = record { above = omega (arith, ints); below = omega (arith, ints, clamps, h.below) }
abs_case a (negsuc n) false false e f h = record { above = omega (arith, ints); below = omega (arith, ints, clamps, h.above) }

abs_in : (a : Span) (x : ℤ) → IsIn a x → IsIn (absolute a) (pos (unsigned_abs x))
abs_in a x h = abs_case a x (int_le (pos 0) a.low) (int_le a.high (pos 0)) refl refl h

-- a number of at least 0 times what grows grows; a number below 0 times it falls
times_pos : (n : ℕ) (c y : ℤ) → c ≤ℤ y → (pos n *ℤ c) ≤ℤ (pos n *ℤ y)
times_pos n (pos c) (pos y) h = let le : c ≤ y = omega (arith, ints, h) in omega (arith, ints, mul-le-mul_left n le)
times_pos n (negsuc c) (pos y) h = omega (arith, ints)
times_pos n (pos c) (negsuc y) h = absurd (omega (arith, ints, h))
times_pos n (negsuc c) (negsuc y) h = let le : suc y ≤ suc c = omega (arith, ints, h) in omega (arith, ints, mul-le-mul_left n le)

times_neg : (n : ℕ) (c y : ℤ) → c ≤ℤ y → (negsuc n *ℤ y) ≤ℤ (negsuc n *ℤ c)
times_neg n (pos c) (pos y) h = let le : c ≤ y = omega (arith, ints, h) in omega (arith, ints, mul-le-mul_left (suc n) le)
times_neg n (negsuc c) (pos y) h = omega (arith, ints)
times_neg n (pos c) (negsuc y) h = absurd (omega (arith, ints, h))
times_neg n (negsuc c) (negsuc y) h = let le : suc y ≤ suc c = omega (arith, ints, h) in omega (arith, ints, mul-le-mul_left (suc n) le)

record Between (p q z : ℤ) : Type 0 where
  above : int_min p q ≤ℤ z
  below : z ≤ℤ int_max p q

between : (x c y d : ℤ) → c ≤ℤ y → y ≤ℤ d → Between (x *ℤ c) (x *ℤ d) (x *ℤ y)
between (pos n) c y d h k =
    let low = times_pos n c y h in
    let high = times_pos n y d k in
    record { above = omega (arith, ints, clamps, low); below = omega (arith, ints, clamps, high) }
between (negsuc n) c y d h k =
    let high = times_neg n c y h in
    let low = times_neg n y d k in
    record { above = omega (arith, ints, clamps, low); below = omega (arith, ints, clamps, high) }

turned : (c a x b : ℤ) → a ≤ℤ x → x ≤ℤ b → Between (a *ℤ c) (b *ℤ c) (x *ℤ c)
turned c a x b h k =
    subst (λ (z : ℤ). Between (a *ℤ c) (b *ℤ c) z) (*ℤ_comm c x)
    (subst (λ (z : ℤ). Between (a *ℤ c) z (c *ℤ x)) (*ℤ_comm c b) (subst (λ (z : ℤ). Between z (c *ℤ b) (c *ℤ x)) (*ℤ_comm c a) (between c a x b h k)))

least : (p q r s u v w : ℤ) → int_min p r ≤ℤ u → int_min q s ≤ℤ v → int_min u v ≤ℤ w → int_min (int_min p q) (int_min r s) ≤ℤ w
least p q r s u v w h k l = omega (arith, ints, clamps, h, k, l)

greatest : (p q r s u v w : ℤ) → u ≤ℤ int_max p r → v ≤ℤ int_max q s → w ≤ℤ int_max u v → w ≤ℤ int_max (int_max p q) (int_max r s)
greatest p q r s u v w h k l = omega (arith, ints, clamps, h, k, l)

mul_in : (a b : Span) (x y : ℤ) → IsIn a x → IsIn b y → IsIn (product a b) (x *ℤ y)
mul_in a b x y h k =
    let xy = between x b.low y b.high k.above k.below in
    let low = turned b.low a.low x a.high h.above h.below in
    let high = turned b.high a.low x a.high h.above h.below in
    record {
      above = least (a.low *ℤ b.low) (a.low *ℤ b.high) (a.high *ℤ b.low) (a.high *ℤ b.high) (x *ℤ b.low) (x *ℤ b.high) (x *ℤ y) low.above high.above xy.above;
      below = greatest (a.low *ℤ b.low) (a.low *ℤ b.high) (a.high *ℤ b.low) (a.high *ℤ b.high) (x *ℤ b.low) (x *ℤ b.high) (x *ℤ y) low.below high.below xy.below;
    }

quotient_grows : (m n k : ℕ) → 1 ≤ k → m ≤ n → m / k ≤ n / k
quotient_grows m n k some h =
    let positive : 0 < k = omega arith in
    (le-div_iff_mul-le positive).1 (omega (arith, div-mul-le_self m k))

div_grows : (x y : ℤ) (n : ℕ) → 1 ≤ n → x ≤ℤ y → int_div x (pos n) ≤ℤ int_div y (pos n)
div_grows (pos a) (pos b) n some h = let le : a ≤ b = omega (arith, ints, h) in omega (arith, ints, quotient_grows a b n some le)
div_grows (pos a) (negsuc b) n some h = absurd (omega (arith, ints, h))
div_grows (negsuc a) (pos b) n some h = omega (arith, ints)
div_grows (negsuc a) (negsuc b) n some h = let le : suc b ≤ suc a = omega (arith, ints, h) in omega (arith, ints, quotient_grows (suc b) (suc a) n some le)

div_in : (a : Span) (x : ℤ) (n : ℕ) → 1 ≤ n → IsIn a x → IsIn (from_to (int_div a.low (pos n)) (int_div a.high (pos n))) (int_div x (pos n))
div_in a x n some h = record { above = div_grows a.low x n some h.above; below = div_grows x a.high n some h.below }

-- ---- an induction over expressions

module _ (feature : Valuation) (bounds : Bounds) (within : (name : List ℕ) (argument : Option Argument) → IsIn (bounds name argument) (feature name argument)) where
  Holds : Expr → Type 0
  Holds e = is_well_formed e ≡ true → IsIn (interval bounds e) (value feature e)

  LayerHolds : Expr-F Expr → Type 0
  LayerHolds x = well_formed_step (map-Expr Expr Bool is_well_formed x) ≡ true
      → IsIn (interval_step bounds (map-Expr Expr Span (interval bounds) x)) (value_step feature (map-Expr Expr ℤ (value feature) x))

  settled : (x : Expr-F Expr) → LayerHolds x → Holds (roll-Expr x)
  unfolding Holds LayerHolds
  settled x h good =
      let f : well_formed_step (map-Expr Expr Bool is_well_formed x) ≡ true = sym (fold-roll-Expr Bool well_formed_step x) ∙ good in
      rw (fold-roll-Expr Span (interval_step bounds) x, fold-roll-Expr ℤ (value_step feature) x) (h f)

  layer : (x : Expr-F ((a : Expr) × Holds a)) → LayerHolds (map-Expr ((a : Expr) × Holds a) Expr (λ p. p.0) x)
  unfolding Holds LayerHolds
  layer (Expr-F.Const n) good = record { above = omega (arith, ints); below = omega (arith, ints) }
  layer (Expr-F.Feature name argument) good = within name argument
  layer (Expr-F.Neg a) good = neg_in (interval bounds a.0) (value feature a.0) (a.1 good)
  layer (Expr-F.Abs a) good = abs_in (interval bounds a.0) (value feature a.0) (a.1 good)
  layer (Expr-F.Add a b) good = let g = both (is_well_formed a.0) (is_well_formed b.0) good in add_in (interval bounds a.0) (interval bounds b.0) (value feature a.0) (value feature b.0) (a.1 g.0) (b.1 g.1)
  layer (Expr-F.Sub a b) good = let g = both (is_well_formed a.0) (is_well_formed b.0) good in sub_in (interval bounds a.0) (interval bounds b.0) (value feature a.0) (value feature b.0) (a.1 g.0) (b.1 g.1)
  layer (Expr-F.Mul a b) good = let g = both (is_well_formed a.0) (is_well_formed b.0) good in mul_in (interval bounds a.0) (interval bounds b.0) (value feature a.0) (value feature b.0) (a.1 g.0) (b.1 g.1)
  layer (Expr-F.Min a b) good = let g = both (is_well_formed a.0) (is_well_formed b.0) good in min_in (interval bounds a.0) (interval bounds b.0) (value feature a.0) (value feature b.0) (a.1 g.0) (b.1 g.1)
  layer (Expr-F.Max a b) good = let g = both (is_well_formed a.0) (is_well_formed b.0) good in max_in (interval bounds a.0) (interval bounds b.0) (value feature a.0) (value feature b.0) (a.1 g.0) (b.1 g.1)
  layer (Expr-F.If a b c) good =
      let g = both (is_well_formed a.0) (is_well_formed b.0 && is_well_formed c.0) good in
      let k = both (is_well_formed b.0) (is_well_formed c.0) g.1 in
      choice_in (interval bounds b.0) (interval bounds c.0) (int_lt (pos 0) (value feature a.0)) (value feature b.0) (value feature c.0) (b.1 k.0) (c.1 k.1)
  layer (Expr-F.Div a (pos n)) good =
      let g = both (is_well_formed a.0) (is_from_to 1 (10 ^ 9) (pos n)) good in
      let t = both (nat_le 1 n) (nat_le n (10 ^ 9)) g.1 in
      let some : 1 ≤ n = grind (arith, nat_tests, t.0) in
      div_in (interval bounds a.0) (value feature a.0) n some (a.1 g.0)
  layer (Expr-F.Div a (negsuc n)) good = absurd (let g = (both (is_well_formed a.0) (is_from_to 1 (10 ^ 9) (negsuc n)) good).1 in cc)

  pub lies : (e : Expr) → is_well_formed e ≡ true → IsIn (interval bounds e) (value feature e)
  unfolding Holds
  lies = ind-Expr Holds (λ x y is. subst (λ (z : Expr-F Expr). Holds (roll-Expr z)) is (settled (map-Expr ((a : Expr) × Holds a) Expr (λ p. p.0) y) (layer y)))
