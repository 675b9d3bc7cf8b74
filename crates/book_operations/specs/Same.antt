-- When two trees, parts and rules are the same, as tests. This project's own.
use Rattle.std.specs.Prelude.{ℕ, ◌*◌, Bool, true, false, ◌&&◌, ◌==◌, List, [], ◌∷◌, Option, Some}
use Rattle.std.specs.Prelude.{None}
use Rattle.std.specs.List.{list_any}
use Rattle.std.proofs.Math.Bool.{beq}
use Rattle.std.specs.Ordering.{int_eq}
use Rattle.std.specs.Str.{bytes_eq}
use Rattle.expressions.specs.declared.tree.Argument.{Argument}
use Rattle.expressions.specs.declared.tree.Argument.TheVariants.{Named, Number}
use Rattle.expressions.specs.declared.tree.Expr.{Expr, out-Expr}
use Rattle.expressions.specs.declared.tree.Expr.TheOpen.{Expr-F}
use Rattle.expressions.specs.declared.tree.Expr.TheFolds.{fold-Expr}
use Rattle.rule_language.specs.declared.book.Rule.{Rule}
use Rattle.rule_language.specs.declared.part.Part.{Part}

abbrev pub same_argument : Argument → Argument → Bool
same_argument (Named a) (Named b) = bytes_eq a b
same_argument (Number a) (Number b) = a == b
same_argument _ _ = false

abbrev pub same_arguments : Option Argument → Option Argument → Bool
same_arguments None None = true
same_arguments (Some a) (Some b) = same_argument a b
same_arguments _ _ = false

abbrev pub same_layer : Expr-F (Expr → Bool) → Expr-F Expr → Bool
same_layer (Expr-F.Const a) (Expr-F.Const b) = int_eq a b
same_layer (Expr-F.Feature a c) (Expr-F.Feature b d) = bytes_eq a b && same_arguments c d
same_layer (Expr-F.Neg a) (Expr-F.Neg b) = a b
same_layer (Expr-F.Abs a) (Expr-F.Abs b) = a b
same_layer (Expr-F.Add a c) (Expr-F.Add b d) = a b && c d
same_layer (Expr-F.Sub a c) (Expr-F.Sub b d) = a b && c d
same_layer (Expr-F.Mul a c) (Expr-F.Mul b d) = a b && c d
same_layer (Expr-F.Min a c) (Expr-F.Min b d) = a b && c d
same_layer (Expr-F.Max a c) (Expr-F.Max b d) = a b && c d
same_layer (Expr-F.If a c e) (Expr-F.If b d f) = a b && c d && e f
same_layer (Expr-F.Div a c) (Expr-F.Div b d) = a b && int_eq c d
same_layer _ _ = false

abbrev pub same_step : Expr-F (Expr → Bool) → Expr → Bool
same_step x b = same_layer x (out-Expr b)

-- two trees are the same
abbrev pub same_tree : Expr → Expr → Bool
same_tree = fold-Expr (Expr → Bool) same_step

-- a part with its weight multiplied
abbrev pub scaled : ℕ → Part → Part
scaled times part = record part { weight = part.weight * times }

-- the other part is this one with its weight multiplied
abbrev pub is_times : ℕ → Part → Part → Bool
is_times times part other =
    part.weight * times == other.weight && same_tree part.expr other.expr
    && beq part.at_end other.at_end

abbrev pub are_times : ℕ → List Part → List Part → Bool
are_times times [] [] = true
are_times times (part ∷ parts) (other ∷ others) =
    is_times times part other && are_times times parts others
are_times times _ _ = false

abbrev pub same_rule : Rule → Rule → Bool
same_rule a b = bytes_eq a.name b.name && are_times 1 a.parts b.parts

-- one of the others is equal to the rule
abbrev pub has_equal : List Rule → Rule → Bool
has_equal others rule = list_any (λ other. same_rule rule other) others
