-- The text that an expression is written as. This project's own.
use Rattle.std.specs.Prelude.{ℕ, ℤ, pos, negsuc, ◌+◌, ◌^◌, max, Bool, false, not, ◌&&◌, List, []}
use Rattle.std.specs.Prelude.{◌∷◌, ◌++◌, Option, Some, None, codes, nat_le, nat_lt}
use Rattle.std.specs.Fmt.{decimal, signed_decimal}
use Rattle.preorder.specs.Name.{is_name}
use Rattle.expressions.specs.Bytes.{plus_sign, times_sign, open_bracket}
use Rattle.reading.specs.Bytes.{space, minus_sign, comma}
use Rattle.expressions.specs.Bytes.{close_bracket}
use Rattle.expressions.specs.Grammar.{is_reserved}
use Rattle.expressions.specs.declared.limits.TheConstants.{MAX_CONSTANT, MAX_DIVISOR}
use Rattle.expressions.specs.declared.limits.TheConstants.{MAX_ARGUMENT_DIGITS}
use Rattle.expressions.specs.declared.tree.Argument.{Argument}
use Rattle.expressions.specs.declared.tree.Argument.TheVariants.{Named, Number}
use Rattle.expressions.specs.declared.tree.Expr.{Expr}
use Rattle.expressions.specs.declared.tree.Expr.TheOpen.{Expr-F}
use Rattle.expressions.specs.declared.tree.Expr.TheFolds.{fold-Expr}

-- a text in brackets behind a name, or behind nothing
abbrev pub call : List ℕ → List ℕ → List ℕ
call name inner = name ++ (open_bracket ∷ (inner ++ close_bracket ∷ []))

-- with one space after the comma
abbrev pub listed : List ℕ → List ℕ → List ℕ
listed a b = a ++ (comma ∷ space ∷ b)

-- with its sign between spaces
abbrev pub signed : ℕ → List ℕ → List ℕ → List ℕ
signed sign a b = a ++ (space ∷ sign ∷ space ∷ b)

abbrev pub written_argument : Argument → List ℕ
written_argument (Named about) = about
written_argument (Number n) = decimal n

abbrev pub written_feature : List ℕ → Option Argument → List ℕ
written_feature name None = name
written_feature name (Some argument) = call name (written_argument argument)

-- one operation, with the texts of its parts
abbrev pub written_step : Expr-F (List ℕ) → List ℕ
written_step (Expr-F.Const n) = signed_decimal n
written_step (Expr-F.Feature name argument) = written_feature name argument
written_step (Expr-F.Neg a) = minus_sign ∷ a
written_step (Expr-F.Abs a) = call (codes "abs") a
written_step (Expr-F.Add a b) = call [] (signed plus_sign a b)
written_step (Expr-F.Sub a b) = call [] (signed minus_sign a b)
written_step (Expr-F.Mul a b) = call [] (signed times_sign a b)
written_step (Expr-F.Min a b) = call (codes "min") (listed a b)
written_step (Expr-F.Max a b) = call (codes "max") (listed a b)
written_step (Expr-F.If a b c) = call (codes "if") (listed a (listed b c))
written_step (Expr-F.Div a n) = call (codes "div") (listed a (signed_decimal n))

abbrev pub written : Expr → List ℕ
written = fold-Expr (List ℕ) written_step

-- how many brackets of the written form stand inside each other at most
abbrev pub nesting_step : Expr-F ℕ → ℕ
nesting_step (Expr-F.Const n) = 0
nesting_step (Expr-F.Feature name None) = 0
nesting_step (Expr-F.Feature name (Some argument)) = 1
nesting_step (Expr-F.Neg a) = a
nesting_step (Expr-F.Abs a) = a + 1
nesting_step (Expr-F.Add a b) = max a b + 1
nesting_step (Expr-F.Sub a b) = max a b + 1
nesting_step (Expr-F.Mul a b) = max a b + 1
nesting_step (Expr-F.Min a b) = max a b + 1
nesting_step (Expr-F.Max a b) = max a b + 1
nesting_step (Expr-F.If a b c) = max a (max b c) + 1
nesting_step (Expr-F.Div a n) = a + 1

abbrev pub nesting : Expr → ℕ
nesting = fold-Expr ℕ nesting_step

abbrev pub is_from_to : ℕ → ℕ → ℤ → Bool
is_from_to low high (pos n) = nat_le low n && nat_le n high
is_from_to low high (negsuc n) = false

abbrev pub is_feature : List ℕ → Bool
is_feature name = is_name name && not (is_reserved name)

-- What a book may hold: constants that are not below 0, divisors that are not below 1, features
-- with names that are free, and numbers of few digits.
abbrev pub well_formed_step : Expr-F Bool → Bool
well_formed_step (Expr-F.Const n) = is_from_to 0 MAX_CONSTANT n
well_formed_step (Expr-F.Feature name None) = is_feature name
well_formed_step (Expr-F.Feature name (Some (Named about))) = is_feature name && is_name about
well_formed_step (Expr-F.Feature name (Some (Number n))) =
    is_feature name && nat_lt n (10 ^ MAX_ARGUMENT_DIGITS)
well_formed_step (Expr-F.Neg a) = a
well_formed_step (Expr-F.Abs a) = a
well_formed_step (Expr-F.Add a b) = a && b
well_formed_step (Expr-F.Sub a b) = a && b
well_formed_step (Expr-F.Mul a b) = a && b
well_formed_step (Expr-F.Min a b) = a && b
well_formed_step (Expr-F.Max a b) = a && b
well_formed_step (Expr-F.If a b c) = a && (b && c)
well_formed_step (Expr-F.Div a n) = a && is_from_to 1 MAX_DIVISOR n

abbrev pub is_well_formed : Expr → Bool
is_well_formed = fold-Expr Bool well_formed_step
