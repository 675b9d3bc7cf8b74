-- A book as it is worked with once it is bound, and what its parts amount to. This project's own.
use Rattle.std.specs.Prelude.{ℕ, ℤ, ◌*◌, false, true, List, map, Option, Some, None, if◌then◌else◌}
use Rattle.std.specs.List.{sum_by}
use Rattle.rule_language.specs.declared.book.Book.{Book}
use Rattle.rule_language.specs.declared.book.Rule.{Rule}
use Rattle.rule_language.specs.declared.part.Part.{Part}
use Rattle.violation_measures.specs.Amounts.{part_value}
use Rattle.violation_measures.specs.Formulas.{Find, formula_value, resolved}
use Rattle.violation_measures.specs.Measured.{used_by}
use Rattle.violation_measures.specs.Values.{Valuation}
use Rattle.violation_measures.specs.declared.bound.Bound.{Bound}
use Rattle.violation_measures.specs.declared.bound.BoundPart.{BoundPart}
use Rattle.violation_measures.specs.declared.bound.BoundRule.{BoundRule}

-- over the features that are measured once a step, and those that are measured once at the end
abbrev pub resolved_part : Find → List ℕ → List ℕ → Part → BoundPart
resolved_part find at_steps at_end part =
    record {
      weight = part.weight;
      at_end = part.at_end;
      formula = resolved find (if part.at_end then at_end else at_steps) part.expr;
    }

abbrev pub resolved_rule : Find → List ℕ → List ℕ → Rule → BoundRule
resolved_rule find at_steps at_end rule =
    record { parts = map (resolved_part find at_steps at_end) rule.parts }

abbrev pub resolved_rules : Find → List ℕ → List ℕ → List Rule → List BoundRule
resolved_rules find at_steps at_end rules = map (resolved_rule find at_steps at_end) rules

-- the book, the numbers of the features that are measured once a step and once at the end, and its
-- rules over these
abbrev pub resolved_book : Find → Book → Bound
resolved_book find book = record {
  book = book;
  at_steps = used_by find false book.rules;
  at_end = used_by find true book.rules;
  rules =
      resolved_rules find (used_by find false book.rules) (used_by find true book.rules) book.rules;
}

-- ---- amounts

abbrev pub counted : Option ℤ → ℕ
counted None = 0
counted (Some n) = part_value n

abbrev pub amount : (ℕ → ℤ) → Valuation → BoundPart → ℕ
amount measured feature part = part.weight * counted (formula_value measured feature part.formula)

-- over the parts that are not final
abbrev pub step_amount : (ℕ → ℤ) → Valuation → List BoundPart → ℕ
step_amount measured feature parts =
    sum_by (λ part. if part.at_end then 0 else amount measured feature part) parts

-- over the final parts
abbrev pub end_amount : (ℕ → ℤ) → Valuation → List BoundPart → ℕ
end_amount measured feature parts =
    sum_by (λ part. if part.at_end then amount measured feature part else 0) parts
