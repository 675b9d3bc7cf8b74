-- The vector of a trajectory: how much it violates each rule, over all its steps and at its end.
-- This project's own, for the rulebooks of Censi and others, 2019.
use Rattle.std.specs.Prelude.{◌≡◌, ◌≤◌, ℕ, ◌+◌, List, length, map, All, Option, Some, None}
use Rattle.std.specs.List.{sum_by, last_or}
use Rattle.rule_language.specs.declared.book.Rule.{Rule}
use Rattle.violation_measures.specs.Amounts.{rule_value, end_value}
use Rattle.violation_measures.specs.Sources.{Features, at_step}
use Rattle.violation_measures.specs.Steps.{finish}
use Rattle.violation_measures.specs.declared.bound.Bound.{Bound}
use Rattle.violation_measures.specs.declared.step.Step.{Step}

-- how many rules there are
abbrev pub width : Bound → ℕ
width bound = length bound.book.rules

-- a number for each rule, in the book's order
abbrev pub for_each_rule : Bound → (Rule → ℕ) → List ℕ
for_each_rule bound number = map number bound.book.rules

-- a rule's value at a step
abbrev pub value_at : Features → Step → Rule → ℕ
value_at f step rule = rule_value (at_step f step) rule.parts

-- a rule's end value, at the finish of the last step
abbrev pub end_at : Features → Step → Rule → ℕ
end_at f step rule = end_value (at_step f (finish step)) rule.parts

-- what a step adds: each rule's value
unfoldable pub step_vector : Features → Bound → Step → List ℕ
step_vector f bound step = for_each_rule bound (value_at f step)

-- what the end adds after a step: each rule's end value
unfoldable pub end_vector : Features → Bound → Step → List ℕ
end_vector f bound step = for_each_rule bound (end_at f step)

-- for each rule the sum of its values over all steps
unfoldable pub run : Features → Bound → List Step → List ℕ
run f bound steps = for_each_rule bound (λ rule. sum_by (λ step. value_at f step rule) steps)

-- the vector has the width, and no number above the limit
pub record IsUpTo (size limit : ℕ) (vector : List ℕ) : Type 0 where
  pub width : length vector ≡ size
  pub up_to : All (λ x. x ≤ limit) vector

-- a rule's end value after the steps, and 0 after none
abbrev pub end_after : Features → Option Step → Rule → ℕ
end_after f None rule = 0
end_after f (Some last) rule = end_at f last rule

-- for each rule its number in the run, and its end value at the finish of the last step
unfoldable pub trajectory_vector : Features → Bound → List Step → List ℕ
trajectory_vector f bound steps =
    for_each_rule bound (λ rule. sum_by (λ step. value_at f step rule) steps
    + end_after f (last_or None steps) rule)
