-- What the parts of a rule amount to at a step, and at the end. This project's own, for the
-- rulebooks of Censi and others, 2019.
use Rattle.std.specs.Prelude.{ℕ, ◌≤◌, ◌*◌, ℤ, pos, negsuc, min, List, IsTrue, if◌then◌else◌}
use Rattle.std.specs.List.{sum_by}
use Rattle.expressions.specs.Written.{is_well_formed}
use Rattle.rule_language.specs.declared.limits.TheConstants.{MAX_WEIGHT}
use Rattle.rule_language.specs.declared.part.Part.{Part}
use Rattle.violation_measures.specs.Intervals.{all_known, all_keep}
use Rattle.violation_measures.specs.Sources.{Features, bounds_of}
use Rattle.violation_measures.specs.Values.{Valuation, value}
use Rattle.violation_measures.specs.declared.amount.TheConstants.{MAX_PART_VALUE}

-- cut to 0 up to the most that a part counts
abbrev pub part_value : ℤ → ℕ
part_value (pos n) = min n MAX_PART_VALUE
part_value (negsuc n) = 0

-- weight times part value
abbrev pub weighted : Valuation → Part → ℕ
weighted feature part = part.weight * part_value (value feature part.expr)

-- a rule's value at a step, over the parts that are not final
abbrev pub rule_value : Valuation → List Part → ℕ
rule_value feature parts = sum_by (λ part. if part.at_end then 0 else weighted feature part) parts

-- a rule's end value, over its final parts
abbrev pub end_value : Valuation → List Part → ℕ
end_value feature parts = sum_by (λ part. if part.at_end then weighted feature part else 0) parts

-- a part that a book may hold, with its features known and the intervals of its subexpressions at
-- most 10^18 in size
pub record IsBoundPart (f : Features) (part : Part) : Type 0 where
  pub weight : part.weight ≤ MAX_WEIGHT
  pub well_formed : IsTrue (is_well_formed part.expr)
  pub known : IsTrue (all_known f.find part.expr)
  pub keeps : IsTrue (all_keep (bounds_of f) part.expr)
