-- The formula of an expression has the expression's value.
use Rattle.std.proofs.Common.{◌≡◌, ℕ, ◌==◌, Bool, true, false, cond, ℤ, pos, List, Option, Some, None, refl, sym, ap, subst, ◌∙◌}
use Rattle.std.specs.Prelude.{int_lt, int_div}
use Rattle.std.specs.List.{position}
use Rattle.expressions.specs.declared.tree.Argument.{Argument}
use Rattle.expressions.specs.declared.tree.Expr.{Expr}
use Rattle.expressions.specs.declared.tree.Expr.TheViews.{roll-Expr}
use Rattle.expressions.specs.declared.tree.Expr.TheOpen.{Expr-F}
use Rattle.expressions.specs.declared.tree.Expr.TheFolds.{fold-roll-Expr, ind-Expr, map-Expr}
use Rattle.violation_measures.specs.Checked.{cut, of_one, of_two, chosen, divided, checked_step, checked_value}
use Rattle.violation_measures.specs.Formulas.{on_number, on_numbers, formula_step, formula_value, constant_step, constant, worked_out, one, two, choice, quotient, Find, place_among, feature_at, resolved_step, resolved}
use Rattle.violation_measures.specs.Intervals.{is_small}
use Rattle.violation_measures.specs.Values.{Valuation}
use Rattle.violation_measures.specs.declared.formula.Binary.{Binary}
use Rattle.violation_measures.specs.declared.formula.Binary.TheVariants as binary
use Rattle.violation_measures.specs.declared.formula.Formula.{Formula}
use Rattle.violation_measures.specs.declared.formula.Formula.TheVariants.{Const, Measured, Asked, One, Two, If, Div, rolls-Const, rolls-Measured, rolls-Asked, rolls-One, rolls-Two, rolls-Div}
use Rattle.violation_measures.specs.declared.formula.Formula.TheViews.{roll-Formula}
use Rattle.violation_measures.specs.declared.formula.Formula.TheOpen.{Formula-F}
use Rattle.violation_measures.specs.declared.formula.Formula.TheFolds.{fold-roll-Formula, ind-Formula, map-Formula}
use Rattle.violation_measures.specs.declared.formula.Unary.{Unary}
use Rattle.violation_measures.specs.declared.formula.Unary.TheVariants as unary
use Rattle.violation_measures.proofs.Choices.{at_choice}

-- ---- what is worked out is small

-- where the one is there, the other is the same
abbrev Implies : Option ℤ → Option ℤ → Type 0
Implies o p = (n : ℤ) → o ≡ Some n → p ≡ Some n

abbrev IsCut : Option ℤ → Type 0
IsCut o = (n : ℤ) → o ≡ Some n → cut n ≡ Some n

cut_where : (b : Bool) (m n : ℤ) → is_small m ≡ b → cond b (Some m) None ≡ Some n → cut n ≡ Some n
cut_where true m n small e =
    let same : m ≡ n = cc in
    let own : cut m ≡ Some m = rw small refl in
    subst (λ (k : ℤ). cut k ≡ Some k) same own
cut_where false m n small e = absurd cc

cut_again : (m n : ℤ) → cut m ≡ Some n → cut n ≡ Some n
cut_again m n e = cut_where (is_small m) m n refl e

one_cut : (f : ℤ → ℤ) (o : Option ℤ) → IsCut (of_one f o)
one_cut f (Some a) n e = cut_again (f a) n e
one_cut f None n e = absurd cc

two_cut : (f : ℤ → ℤ → ℤ) (o p : Option ℤ) → IsCut (of_two f o p)
two_cut f (Some a) (Some b) n e = cut_again (f a b) n e
two_cut f (Some a) None n e = absurd cc
two_cut f None p n e = absurd cc

chosen_cut : (o p q : Option ℤ) → IsCut (chosen o p q)
chosen_cut (Some a) (Some b) (Some c) n e = cut_again (cond (int_lt (pos 0) a) b c) n e
chosen_cut (Some a) (Some b) None n e = absurd cc
chosen_cut (Some a) None q n e = absurd cc
chosen_cut None p q n e = absurd cc

divided_where : (b : Bool) (m n : ℤ) → cond b (cut m) None ≡ Some n → cut n ≡ Some n
divided_where true m n e = cut_again m n e
divided_where false m n e = absurd cc

divided_cut : (o : Option ℤ) (by : ℤ) → IsCut (divided o by)
divided_cut (Some a) by n e = divided_where (int_lt (pos 0) by) (int_div a by) n e
divided_cut None by n e = absurd cc

one_implies : (f : ℤ → ℤ) (o p : Option ℤ) → Implies o p → Implies (of_one f o) (of_one f p)
one_implies f (Some a) p h n e = rw (h a refl) e
one_implies f None p h n e = absurd cc

two_implies : (f : ℤ → ℤ → ℤ) (o p q r : Option ℤ) → Implies o q → Implies p r → Implies (of_two f o p) (of_two f q r)
two_implies f (Some a) (Some b) q r h k n e = rw (h a refl, k b refl) e
two_implies f (Some a) None q r h k n e = absurd cc
two_implies f None p q r h k n e = absurd cc

chosen_implies : (o p q s t u : Option ℤ) → Implies o s → Implies p t → Implies q u → Implies (chosen o p q) (chosen s t u)
chosen_implies (Some a) (Some b) (Some c) s t u h k l n e = rw (h a refl, k b refl, l c refl) e
chosen_implies (Some a) (Some b) None s t u h k l n e = absurd cc
chosen_implies (Some a) None q s t u h k l n e = absurd cc
chosen_implies None p q s t u h k l n e = absurd cc

divided_implies : (o p : Option ℤ) (by : ℤ) → Implies o p → Implies (divided o by) (divided p by)
divided_implies (Some a) p by h n e = rw (h a refl) e
divided_implies None p by h n e = absurd cc

module _ (measured : ℕ → ℤ) (feature : Valuation) where
  -- the value of a formula
  of : Formula → Option ℤ
  of = formula_value measured feature

  rolled : (x : Formula-F Formula) → of (roll-Formula x) ≡ formula_step measured feature (map-Formula Formula (Option ℤ) of x)
  unfolding of
  rolled x = fold-roll-Formula (Option ℤ) (formula_step measured feature) x

  at_const : (n : ℤ) → of (Const n) ≡ cut n
  unfolding of
  at_const n = sym (ap of (rolls-Const n)) ∙ rolled (Formula-F.Const n)

  at_measured : (place : ℕ) → of (Measured place) ≡ cut (measured place)
  unfolding of
  at_measured place = sym (ap of (rolls-Measured place)) ∙ rolled (Formula-F.Measured place)

  at_asked : (name : List ℕ) (argument : Option Argument) → of (Asked name argument) ≡ cut (feature name argument)
  unfolding of
  at_asked name argument = sym (ap of (rolls-Asked name argument)) ∙ rolled (Formula-F.Asked name argument)

  at_one : (operation : Unary) (a : Formula) → of (One operation a) ≡ of_one (on_number operation) (of a)
  unfolding of
  at_one operation a = sym (ap of (rolls-One operation a)) ∙ rolled (Formula-F.One operation a)

  at_two : (operation : Binary) (a b : Formula) → of (Two operation a b) ≡ of_two (on_numbers operation) (of a) (of b)
  unfolding of
  at_two operation a b = sym (ap of (rolls-Two operation a b)) ∙ rolled (Formula-F.Two operation a b)

  at_quotient : (a : Formula) (n : ℤ) → of (Div a n) ≡ divided (of a) n
  unfolding of
  at_quotient a n = sym (ap of (rolls-Div a n)) ∙ rolled (Formula-F.Div a n)

  -- a formula that is a number has it as its value
  IsItsConstant : Formula → Type 0
  IsItsConstant a = Implies (constant a) (of a)

  layer_constant : (x : Formula-F Formula) → Implies (constant_step (map-Formula Formula (Option ℤ) constant x)) (formula_step measured feature (map-Formula Formula (Option ℤ) of x))
  layer_constant (Formula-F.Const m) n e = e
  layer_constant (Formula-F.Measured place) n e = absurd cc
  layer_constant (Formula-F.Asked name argument) n e = absurd cc
  layer_constant (Formula-F.One operation a) n e = absurd cc
  layer_constant (Formula-F.Two operation a b) n e = absurd cc
  layer_constant (Formula-F.If a b c) n e = absurd cc
  layer_constant (Formula-F.Div a m) n e = absurd cc

  rolled_constant : (x : Formula-F Formula) → IsItsConstant (roll-Formula x)
  unfolding IsItsConstant
  rolled_constant x n e = rolled x ∙ layer_constant x n (sym (fold-roll-Formula (Option ℤ) constant_step x) ∙ e)

  is_constant : (a : Formula) → IsItsConstant a
  is_constant = ind-Formula IsItsConstant (λ x y is. rolled_constant x)

  -- what is worked out has the value of the operation
  is_worked_out : (o p : Option ℤ) (a : Formula) → IsCut o → Implies o p → of a ≡ p → of (worked_out o a) ≡ p
  is_worked_out (Some n) p a small same e = at_const n ∙ small n refl ∙ sym (same n refl)
  is_worked_out None p a small same e = e

  value_one : (operation : Unary) (a : Formula) → of (one operation a) ≡ of_one (on_number operation) (of a)
  unfolding IsItsConstant
  value_one operation a =
      is_worked_out (of_one (on_number operation) (constant a)) (of_one (on_number operation) (of a)) (One operation a) (one_cut (on_number operation) (constant a))
      (one_implies (on_number operation) (constant a) (of a) (is_constant a)) (at_one operation a)

  value_two : (operation : Binary) (a b : Formula) → of (two operation a b) ≡ of_two (on_numbers operation) (of a) (of b)
  unfolding IsItsConstant
  value_two operation a b =
      is_worked_out (of_two (on_numbers operation) (constant a) (constant b)) (of_two (on_numbers operation) (of a) (of b)) (Two operation a b) (two_cut (on_numbers operation) (constant a) (constant b))
      (two_implies (on_numbers operation) (constant a) (constant b) (of a) (of b) (is_constant a) (is_constant b)) (at_two operation a b)

  value_choice : (a b c : Formula) → of (choice a b c) ≡ chosen (of a) (of b) (of c)
  unfolding IsItsConstant of
  value_choice a b c =
      is_worked_out (chosen (constant a) (constant b) (constant c)) (chosen (of a) (of b) (of c)) (If a b c) (chosen_cut (constant a) (constant b) (constant c))
      (chosen_implies (constant a) (constant b) (constant c) (of a) (of b) (of c) (is_constant a) (is_constant b) (is_constant c)) (at_choice measured feature a b c)

  value_quotient : (a : Formula) (n : ℤ) → of (quotient a n) ≡ divided (of a) n
  unfolding IsItsConstant
  value_quotient a n =
      is_worked_out (divided (constant a) n) (divided (of a) n) (Div a n) (divided_cut (constant a) n)
      (divided_implies (constant a) (of a) n (is_constant a)) (at_quotient a n)

  -- ---- the formula of an expression

  -- at the place of a feature's number stands its value
  unfoldable pub Stands : Find → List ℕ → Type 0
  Stands find used = (name : List ℕ) (argument : Option Argument) (n place : ℕ) → find name argument ≡ Some n → position (λ m. m == n) used ≡ Some place → measured place ≡ feature name argument

  module _ (find : Find) (used : List ℕ) (stands : Stands find used) where
    at_place : (name : List ℕ) (argument : Option Argument) (n : ℕ) → find name argument ≡ Some n → (place : Option ℕ) → position (λ m. m == n) used ≡ place → of (feature_at place name argument) ≡ cut (feature name argument)
    unfolding Stands
    at_place name argument n found None e = at_asked name argument
    at_place name argument n found (Some place) e = at_measured place ∙ ap cut (stands name argument n place found e)

    at_feature : (name : List ℕ) (argument : Option Argument) (found : Option ℕ) → find name argument ≡ found → of (feature_at (place_among used found) name argument) ≡ cut (feature name argument)
    at_feature name argument None e = at_asked name argument
    at_feature name argument (Some n) e = at_place name argument n e (position (λ m. m == n) used) refl

    Holds : Expr → Type 0
    Holds e = of (resolved find used e) ≡ checked_value feature e

    LayerHolds : Expr-F Expr → Type 0
    LayerHolds x = of (resolved_step find used (map-Expr Expr Formula (resolved find used) x)) ≡ checked_step feature (map-Expr Expr (Option ℤ) (checked_value feature) x)

    settled : (x : Expr-F Expr) → LayerHolds x → Holds (roll-Expr x)
    unfolding Holds LayerHolds
    settled x h = ap of (fold-roll-Expr Formula (resolved_step find used) x) ∙ h ∙ sym (fold-roll-Expr (Option ℤ) (checked_step feature) x)

    of_both : (operation : Binary) (a b : Expr) → Holds a → Holds b → of (two operation (resolved find used a) (resolved find used b)) ≡ of_two (on_numbers operation) (checked_value feature a) (checked_value feature b)
    unfolding Holds
    of_both operation a b h k = value_two operation (resolved find used a) (resolved find used b) ∙ (λ i. of_two (on_numbers operation) (h i) (k i))

    layer : (x : Expr-F ((a : Expr) × Holds a)) → LayerHolds (map-Expr ((a : Expr) × Holds a) Expr (λ p. p.0) x)
    unfolding Holds LayerHolds
    layer (Expr-F.Const n) = at_const n
    layer (Expr-F.Feature name argument) = at_feature name argument (find name argument) refl
    layer (Expr-F.Neg a) = value_one unary.Neg (resolved find used a.0) ∙ ap (of_one (on_number unary.Neg)) a.1
    layer (Expr-F.Abs a) = value_one unary.Abs (resolved find used a.0) ∙ ap (of_one (on_number unary.Abs)) a.1
    layer (Expr-F.Add a b) = of_both binary.Add a.0 b.0 a.1 b.1
    layer (Expr-F.Sub a b) = of_both binary.Sub a.0 b.0 a.1 b.1
    layer (Expr-F.Mul a b) = of_both binary.Mul a.0 b.0 a.1 b.1
    layer (Expr-F.Min a b) = of_both binary.Min a.0 b.0 a.1 b.1
    layer (Expr-F.Max a b) = of_both binary.Max a.0 b.0 a.1 b.1
    layer (Expr-F.If a b c) = value_choice (resolved find used a.0) (resolved find used b.0) (resolved find used c.0) ∙ (λ i. chosen (a.1 i) (b.1 i) (c.1 i))
    layer (Expr-F.Div a n) = value_quotient (resolved find used a.0) n ∙ ap (λ (o : Option ℤ). divided o n) a.1

    pub resolved_value : (e : Expr) → formula_value measured feature (resolved find used e) ≡ checked_value feature e
    unfolding Holds of
    resolved_value = ind-Expr Holds (λ x y is. subst (λ (z : Expr-F Expr). Holds (roll-Expr z)) is (settled (map-Expr ((a : Expr) × Holds a) Expr (λ p. p.0) y) (layer y)))
