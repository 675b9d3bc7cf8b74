-- Expressions as they are worked out at each step, and what they are made from. This project's own.
use Rattle.std.specs.Prelude.{ℕ, ℤ, pos, ◌+ℤ◌, ◌-ℤ◌, ◌*ℤ◌, neg_ℤ, unsigned_abs, ◌==◌, List, Option}
use Rattle.std.specs.Prelude.{Some, None}
use Rattle.std.specs.Int.{int_min, int_max}
use Rattle.std.specs.List.{position}
use Rattle.expressions.specs.declared.tree.Argument.{Argument}
use Rattle.expressions.specs.declared.tree.Expr.{Expr}
use Rattle.expressions.specs.declared.tree.Expr.TheOpen.{Expr-F}
use Rattle.expressions.specs.declared.tree.Expr.TheFolds.{fold-Expr}
use Rattle.violation_measures.specs.Checked.{cut, of_one, of_two, chosen, divided}
use Rattle.violation_measures.specs.Values.{Valuation}
use Rattle.violation_measures.specs.declared.formula.Binary.{Binary}
use Rattle.violation_measures.specs.declared.formula.Binary.TheVariants as binary
use Rattle.violation_measures.specs.declared.formula.Formula.{Formula}
use Rattle.violation_measures.specs.declared.formula.Formula.TheVariants as formula
use Rattle.violation_measures.specs.declared.formula.Formula.TheOpen.{Formula-F}
use Rattle.violation_measures.specs.declared.formula.Formula.TheFolds.{fold-Formula}
use Rattle.violation_measures.specs.declared.formula.Unary.{Unary}
use Rattle.violation_measures.specs.declared.formula.Unary.TheVariants as unary

-- ---- values

abbrev pub on_number : Unary → ℤ → ℤ
on_number unary.Neg a = neg_ℤ a
on_number unary.Abs a = pos (unsigned_abs a)

abbrev pub on_numbers : Binary → ℤ → ℤ → ℤ
on_numbers binary.Add a b = a +ℤ b
on_numbers binary.Sub a b = a -ℤ b
on_numbers binary.Mul a b = a *ℤ b
on_numbers binary.Min a b = int_min a b
on_numbers binary.Max a b = int_max a b

abbrev pub formula_step : (ℕ → ℤ) → Valuation → Formula-F (Option ℤ) → Option ℤ
formula_step measured feature (Formula-F.Const n) = cut n
formula_step measured feature (Formula-F.Measured place) = cut (measured place)
formula_step measured feature (Formula-F.Asked name argument) = cut (feature name argument)
formula_step measured feature (Formula-F.One operation a) = of_one (on_number operation) a
formula_step measured feature (Formula-F.Two operation a b) = of_two (on_numbers operation) a b
formula_step measured feature (Formula-F.If a b c) = chosen a b c
formula_step measured feature (Formula-F.Div a n) = divided a n

-- the value over what is measured at each place, and over the value of each feature, where no value
-- on the way passes 10^18 in size
abbrev pub formula_value : (ℕ → ℤ) → Valuation → Formula → Option ℤ
formula_value measured feature = fold-Formula (Option ℤ) (formula_step measured feature)

-- ---- how they are made

abbrev pub constant_step : Formula-F (Option ℤ) → Option ℤ
constant_step (Formula-F.Const n) = cut n
constant_step (Formula-F.Measured place) = None
constant_step (Formula-F.Asked name argument) = None
constant_step (Formula-F.One operation a) = None
constant_step (Formula-F.Two operation a b) = None
constant_step (Formula-F.If a b c) = None
constant_step (Formula-F.Div a n) = None

-- the number of a formula that is one
abbrev pub constant : Formula → Option ℤ
constant = fold-Formula (Option ℤ) constant_step

-- the number where there is one, and else the formula
abbrev pub worked_out : Option ℤ → Formula → Formula
worked_out (Some n) otherwise = formula.Const n
worked_out None otherwise = otherwise

-- an operation on one formula; on a constant it is worked out
abbrev pub one : Unary → Formula → Formula
one operation a = worked_out (of_one (on_number operation) (constant a)) (formula.One operation a)

abbrev pub two : Binary → Formula → Formula → Formula
two operation a b =
    worked_out (of_two (on_numbers operation) (constant a) (constant b)) (formula.Two operation a b)

abbrev pub choice : Formula → Formula → Formula → Formula
choice a b c = worked_out (chosen (constant a) (constant b) (constant c)) (formula.If a b c)

abbrev pub quotient : Formula → ℤ → Formula
quotient a n = worked_out (divided (constant a) n) (formula.Div a n)

-- the number of each feature, by its name and argument
abbrev pub Find : Type 0
Find = List ℕ → Option Argument → Option ℕ

-- the place of a number among those that are measured
abbrev pub place_among : List ℕ → Option ℕ → Option ℕ
place_among used None = None
place_among used (Some n) = position (λ m. m == n) used

abbrev pub feature_at : Option ℕ → List ℕ → Option Argument → Formula
feature_at (Some place) name argument = formula.Measured place
feature_at None name argument = formula.Asked name argument

abbrev pub resolved_step : Find → List ℕ → Expr-F Formula → Formula
resolved_step find used (Expr-F.Const n) = formula.Const n
resolved_step find used (Expr-F.Feature name argument) =
    feature_at (place_among used (find name argument)) name argument
resolved_step find used (Expr-F.Neg a) = one unary.Neg a
resolved_step find used (Expr-F.Abs a) = one unary.Abs a
resolved_step find used (Expr-F.Add a b) = two binary.Add a b
resolved_step find used (Expr-F.Sub a b) = two binary.Sub a b
resolved_step find used (Expr-F.Mul a b) = two binary.Mul a b
resolved_step find used (Expr-F.Min a b) = two binary.Min a b
resolved_step find used (Expr-F.Max a b) = two binary.Max a b
resolved_step find used (Expr-F.If a b c) = choice a b c
resolved_step find used (Expr-F.Div a n) = quotient a n

-- the formula of an expression, where the features of these numbers are measured
abbrev pub resolved : Find → List ℕ → Expr → Formula
resolved find used = fold-Expr Formula (resolved_step find used)
