-- What is measured once a step, or once at the end: the features that the parts of a book name,
-- each once. This project's own.
use Rattle.std.specs.Prelude.{◌≡◌, ◌<◌, ℕ, ℤ, pos, ◌==◌, ◌||◌, Bool, not, nat_le, List, [], ◌∷◌}
use Rattle.std.specs.Prelude.{◌++◌, length, Option, Some, None, slice_index_or, if◌then◌else◌}
use Rattle.std.specs.List.{fold, flat_map, list_any}
use Rattle.expressions.specs.declared.tree.Expr.{Expr}
use Rattle.expressions.specs.declared.tree.Expr.TheOpen.{Expr-F}
use Rattle.expressions.specs.declared.tree.Expr.TheFolds.{fold-Expr}
use Rattle.rule_language.specs.declared.book.Rule.{Rule}
use Rattle.rule_language.specs.declared.part.Part.{Part}
use Rattle.violation_measures.specs.Formulas.{Find}
use Rattle.violation_measures.specs.Sources.{Features}
use Rattle.violation_measures.specs.declared.step.Step.{Step}
use Rattle.violation_measures.specs.declared.used.TheConstants.{MAX_MEASURED}

-- ---- which features

abbrev pub number_found : Option ℕ → List ℕ
number_found None = []
number_found (Some n) = n ∷ []

abbrev pub numbers_step : Find → Expr-F (List ℕ) → List ℕ
numbers_step find (Expr-F.Const n) = []
numbers_step find (Expr-F.Feature name argument) = number_found (find name argument)
numbers_step find (Expr-F.Neg a) = a
numbers_step find (Expr-F.Abs a) = a
numbers_step find (Expr-F.Add a b) = a ++ b
numbers_step find (Expr-F.Sub a b) = a ++ b
numbers_step find (Expr-F.Mul a b) = a ++ b
numbers_step find (Expr-F.Min a b) = a ++ b
numbers_step find (Expr-F.Max a b) = a ++ b
numbers_step find (Expr-F.If a b c) = a ++ (b ++ c)
numbers_step find (Expr-F.Div a n) = a

-- the numbers of the features that an expression names, in its order
abbrev pub numbers : Find → Expr → List ℕ
numbers find = fold-Expr (List ℕ) (numbers_step find)

-- whether a part is of the end, or not, as is asked
abbrev pub is_of_kind : Bool → Part → Bool
is_of_kind at_end part = if at_end then part.at_end else not part.at_end

-- those of the parts of a kind
abbrev pub part_numbers : Find → Bool → List Part → List ℕ
part_numbers find at_end =
    flat_map (λ part. if is_of_kind at_end part then numbers find part.expr else [])

abbrev pub rule_numbers : Find → Bool → List Rule → List ℕ
rule_numbers find at_end = flat_map (λ rule. part_numbers find at_end rule.parts)

-- one number more, where it is new and there is room
abbrev pub noted : List ℕ → ℕ → List ℕ
noted used n =
    if nat_le MAX_MEASURED (length used) || list_any (λ m. m == n) used then used
    else used ++ n ∷ []

-- the numbers of the first features that the parts of a kind name, each once
unfoldable pub used_by : Find → Bool → List Rule → List ℕ
used_by find at_end rules = fold noted [] (rule_numbers find at_end rules)

-- ---- their values

-- what is measured at a place
abbrev pub measured_at : List ℤ → ℕ → ℤ
measured_at values place = slice_index_or values place (pos 0)

-- at the place of each number stands the value at the step
pub record IsMeasured (f : Features) (step : Step) (used : List ℕ) (values : List ℤ) : Type 0 where
  pub each : (place : ℕ) → place < length used → measured_at values place
      ≡ f.value (slice_index_or used place 0) step
