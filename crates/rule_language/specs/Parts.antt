-- The line that a part of a rule is written as. This project's own.
use Rattle.std.specs.Prelude.{ℕ, Bool, not, ◌&&◌, List, ◌∷◌, ◌++◌, Option, Some, None, length, drop}
use Rattle.std.specs.Prelude.{codes, nat_le, if◌then◌else◌, ◌≤◌, IsTrue}
use Rattle.std.specs.List.{position}
use Rattle.std.specs.Fmt.{decimal}
use Rattle.reading.specs.Bytes.{space}
use Rattle.expressions.specs.Written.{written, nesting, is_well_formed}
use Rattle.expressions.specs.declared.limits.TheConstants.{MAX_BRACKETS, MAX_LINE}
use Rattle.expressions.specs.declared.tree.Expr.{Expr}
use Rattle.rule_language.specs.Bytes.{is_zero_digit}
use Rattle.rule_language.specs.declared.part.Part.{Part}
use Rattle.rule_language.specs.declared.limits.TheConstants.{MAX_WEIGHT}

abbrev pub trimmed : List ℕ → Option ℕ → List ℕ
trimmed digits (Some at) = drop at digits
trimmed digits None = codes "0"

-- digits without the zeros before them, as a number is written in decimal
unfoldable pub without_zeros : List ℕ → List ℕ
without_zeros digits = trimmed digits (position (λ b. not (is_zero_digit b)) digits)

-- a part of the end is `final`, and any other `part`
abbrev pub kind_of : Bool → List ℕ
kind_of at_end = if at_end then codes "final" else codes "part"

-- `part NAME WEIGHT EXPR` or `final NAME WEIGHT EXPR`, with the weight in decimal
abbrev pub part_text : Bool → List ℕ → List ℕ → Expr → List ℕ
part_text at_end name weight expr =
    kind_of at_end ++ (space ∷ name ++ (space ∷ weight ++ (space ∷ written expr)))

-- A written line has no more bytes than a line may have, and no more brackets inside each other
-- than may stand so.
unfoldable pub part_fits : Bool → List ℕ → List ℕ → Expr → Bool
part_fits at_end name weight expr =
    nat_le (length (part_text at_end name weight expr)) MAX_LINE
    && nat_le (nesting expr) MAX_BRACKETS

-- What a rule of this name may have as a part: its weight is from 1 to the largest, its constants,
-- divisors and features are those of a text, and its line fits.
pub record IsPart (name : List ℕ) (part : Part) : Type 0 where
  pub weighs : 1 ≤ part.weight
  pub weight : part.weight ≤ MAX_WEIGHT
  pub well_formed : IsTrue (is_well_formed part.expr)
  pub fits : IsTrue (part_fits part.at_end name (decimal part.weight) part.expr)
