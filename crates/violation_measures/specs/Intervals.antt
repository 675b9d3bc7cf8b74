-- The interval of an expression, from the bounds of features. This project's own.
use Rattle.std.specs.Prelude.{ℕ, ℤ, pos, ◌+ℤ◌, ◌-ℤ◌, ◌*ℤ◌, ◌≤ℤ◌, neg_ℤ, unsigned_abs, int_div}
use Rattle.std.specs.Prelude.{int_le, Bool, true, ◌&&◌, nat_le, List, Option, is_some}
use Rattle.std.specs.Prelude.{if◌then◌else◌}
use Rattle.std.specs.Int.{int_min, int_max}
use Rattle.scenario_model.specs.declared.problem.Span.{Span}
use Rattle.expressions.specs.declared.tree.Argument.{Argument}
use Rattle.expressions.specs.declared.tree.Expr.{Expr}
use Rattle.expressions.specs.declared.tree.Expr.TheOpen.{Expr-F}
use Rattle.expressions.specs.declared.tree.Expr.TheFolds.{fold-Expr, para-Expr, map-Expr}
use Rattle.violation_measures.specs.declared.value.TheConstants.{MAX_VALUE}

-- the number is one of the whole numbers from low to high
pub record IsIn (i : Span) (n : ℤ) : Type 0 where
  pub above : i.low ≤ℤ n
  pub below : n ≤ℤ i.high

abbrev pub from_to : ℤ → ℤ → Span
from_to low high = record { low = low; high = high }

-- the bounds of each feature
abbrev pub Bounds : Type 0
Bounds = List ℕ → Option Argument → Span

abbrev pub absolute : Span → Span
absolute a =
    if int_le (pos 0) a.low then a
    else if int_le a.high (pos 0) then from_to (neg_ℤ a.high) (neg_ℤ a.low)
    else from_to (pos 0) (int_max (neg_ℤ a.low) a.high)

-- the least and greatest of the four products of ends
abbrev pub product : Span → Span → Span
product a b = from_to
    (int_min (int_min (a.low *ℤ b.low) (a.low *ℤ b.high))
    (int_min (a.high *ℤ b.low) (a.high *ℤ b.high)))
    (int_max (int_max (a.low *ℤ b.low) (a.low *ℤ b.high))
    (int_max (a.high *ℤ b.low) (a.high *ℤ b.high)))

-- one operation on the intervals of its parts
abbrev pub interval_step : Bounds → Expr-F Span → Span
interval_step bounds (Expr-F.Const n) = from_to n n
interval_step bounds (Expr-F.Feature name argument) = bounds name argument
interval_step bounds (Expr-F.Neg a) = from_to (neg_ℤ a.high) (neg_ℤ a.low)
interval_step bounds (Expr-F.Abs a) = absolute a
interval_step bounds (Expr-F.Add a b) = from_to (a.low +ℤ b.low) (a.high +ℤ b.high)
interval_step bounds (Expr-F.Sub a b) = from_to (a.low -ℤ b.high) (a.high -ℤ b.low)
interval_step bounds (Expr-F.Mul a b) = product a b
interval_step bounds (Expr-F.Min a b) = from_to (int_min a.low b.low) (int_min a.high b.high)
interval_step bounds (Expr-F.Max a b) = from_to (int_max a.low b.low) (int_max a.high b.high)
interval_step bounds (Expr-F.If a b c) = from_to (int_min b.low c.low) (int_max b.high c.high)
interval_step bounds (Expr-F.Div a n) = from_to (int_div a.low n) (int_div a.high n)

abbrev pub interval : Bounds → Expr → Span
interval bounds = fold-Expr Span (interval_step bounds)

-- at most 10^18 in size
abbrev pub is_small : ℤ → Bool
is_small n = nat_le (unsigned_abs n) MAX_VALUE

-- whether neither end passes 10^18 in size
abbrev pub keeps : Span → Bool
keeps i = is_small i.low && is_small i.high

-- whether it is so of every part
abbrev pub every : Expr-F Bool → Bool
every (Expr-F.Const n) = true
every (Expr-F.Feature name argument) = true
every (Expr-F.Neg a) = a
every (Expr-F.Abs a) = a
every (Expr-F.Add a b) = a && b
every (Expr-F.Sub a b) = a && b
every (Expr-F.Mul a b) = a && b
every (Expr-F.Min a b) = a && b
every (Expr-F.Max a b) = a && b
every (Expr-F.If a b c) = a && (b && c)
every (Expr-F.Div a n) = a

abbrev pub keeps_step : Bounds → Expr-F (Expr × Bool) → Bool
keeps_step bounds x =
    keeps (interval_step bounds (map-Expr (Expr × Bool) Span (λ p. interval bounds p.0) x))
    && every (map-Expr (Expr × Bool) Bool (λ p. p.1) x)

-- whether the interval of no subexpression passes 10^18 in size
abbrev pub all_keep : Bounds → Expr → Bool
all_keep bounds = para-Expr Bool (keeps_step bounds)

-- whether every feature of an expression is known
abbrev pub all_known_step : (List ℕ → Option Argument → Option ℕ) → Expr-F Bool → Bool
all_known_step find (Expr-F.Const n) = true
all_known_step find (Expr-F.Feature name argument) = is_some (find name argument)
all_known_step find (Expr-F.Neg a) = a
all_known_step find (Expr-F.Abs a) = a
all_known_step find (Expr-F.Add a b) = a && b
all_known_step find (Expr-F.Sub a b) = a && b
all_known_step find (Expr-F.Mul a b) = a && b
all_known_step find (Expr-F.Min a b) = a && b
all_known_step find (Expr-F.Max a b) = a && b
all_known_step find (Expr-F.If a b c) = a && (b && c)
all_known_step find (Expr-F.Div a n) = a

abbrev pub all_known : (List ℕ → Option Argument → Option ℕ) → Expr → Bool
all_known find = fold-Expr Bool (all_known_step find)
