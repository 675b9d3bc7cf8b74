-- The interval of an expression where no interval on the way passes 10^18 in size.
use Rattle.std.specs.Prelude.{ℤ, pos, ◌+ℤ◌, ◌-ℤ◌, neg_ℤ, int_div, int_lt, Option, Some, None}
use Rattle.std.specs.Prelude.{if◌then◌else◌}
use Rattle.std.specs.Int.{int_min, int_max}
use Rattle.expressions.specs.declared.tree.Expr.{Expr}
use Rattle.expressions.specs.declared.tree.Expr.TheOpen.{Expr-F}
use Rattle.expressions.specs.declared.tree.Expr.TheFolds.{fold-Expr}
use Rattle.scenario_model.specs.declared.problem.Span.{Span}
use Rattle.violation_measures.specs.Checked.{IsSmall}
use Rattle.violation_measures.specs.Intervals.{Bounds, from_to, absolute, product, keeps}

pub record IsKept (i : Span) : Type 0 where
  pub low : IsSmall i.low
  pub high : IsSmall i.high

-- the interval where neither end passes 10^18 in size
abbrev pub kept : Span → Option Span
kept i = if keeps i then Some i else None

abbrev pub on_one : (Span → Span) → Option Span → Option Span
on_one f (Some a) = kept (f a)
on_one f None = None

abbrev pub on_two : (Span → Span → Span) → Option Span → Option Span → Option Span
on_two f (Some a) (Some b) = kept (f a b)
on_two f (Some a) None = None
on_two f None b = None

abbrev pub negated : Span → Span
negated a = from_to (neg_ℤ a.high) (neg_ℤ a.low)

abbrev pub summed : Span → Span → Span
summed a b = from_to (a.low +ℤ b.low) (a.high +ℤ b.high)

abbrev pub differing : Span → Span → Span
differing a b = from_to (a.low -ℤ b.high) (a.high -ℤ b.low)

abbrev pub lesser : Span → Span → Span
lesser a b = from_to (int_min a.low b.low) (int_min a.high b.high)

abbrev pub greater : Span → Span → Span
greater a b = from_to (int_max a.low b.low) (int_max a.high b.high)

-- the least interval that holds both
abbrev pub hull : Span → Span → Span
hull a b = from_to (int_min a.low b.low) (int_max a.high b.high)

abbrev pub choice : Option Span → Option Span → Option Span → Option Span
choice (Some a) b c = on_two hull b c
choice None b c = None

abbrev pub quotients : ℤ → Span → Span
quotients n a = from_to (int_div a.low n) (int_div a.high n)

-- by a divisor of at least 1
abbrev pub quotient : Option Span → ℤ → Option Span
quotient a n = if int_lt (pos 0) n then on_one (quotients n) a else None

abbrev pub ranged_step : Bounds → Expr-F (Option Span) → Option Span
ranged_step bounds (Expr-F.Const n) = kept (from_to n n)
ranged_step bounds (Expr-F.Feature name argument) = kept (bounds name argument)
ranged_step bounds (Expr-F.Neg a) = on_one negated a
ranged_step bounds (Expr-F.Abs a) = on_one absolute a
ranged_step bounds (Expr-F.Add a b) = on_two summed a b
ranged_step bounds (Expr-F.Sub a b) = on_two differing a b
ranged_step bounds (Expr-F.Mul a b) = on_two product a b
ranged_step bounds (Expr-F.Min a b) = on_two lesser a b
ranged_step bounds (Expr-F.Max a b) = on_two greater a b
ranged_step bounds (Expr-F.If a b c) = choice a b c
ranged_step bounds (Expr-F.Div a n) = quotient a n

abbrev pub ranged : Bounds → Expr → Option Span
ranged bounds = fold-Expr (Option Span) (ranged_step bounds)
