-- What a source of features answers, and its laws. This project's own.
use Rattle.std.specs.Prelude.{◌≡◌, ℕ, ℤ, pos, neg_ℤ, ◌≤ℤ◌, List, Option, Some, None}
use Rattle.expressions.specs.declared.tree.Argument.{Argument}
use Rattle.scenario_model.specs.declared.problem.Span.{Span}
use Rattle.violation_measures.specs.Intervals.{IsIn, Bounds, from_to}
use Rattle.violation_measures.specs.Steps.{IsStep}
use Rattle.violation_measures.specs.Values.{Valuation}
use Rattle.violation_measures.specs.declared.source.TheConstants.{MAX_BOUND}
use Rattle.violation_measures.specs.declared.step.Step.{Step}

-- what the calls of a source answer: the number of a feature by its name and argument, and its
-- bounds and value by its number
pub record Features : Type 0 where
  pub find : List ℕ → Option Argument → Option ℕ
  pub bounds : ℕ → Span
  pub value : ℕ → Step → ℤ

-- a number that some feature has
abbrev pub IsKnown : Features → ℕ → Type 0
IsKnown f n = (name : List ℕ) × (argument : Option Argument) × (f.find name argument ≡ Some n)

-- the bounds of each feature keep to 10^12 on either side of 0, and its value at each step lies in
-- them
pub record AreSound (f : Features) : Type 0 where
  pub least : (n : ℕ) → IsKnown f n → neg_ℤ MAX_BOUND ≤ℤ (f.bounds n).low
  pub ordered : (n : ℕ) → IsKnown f n → (f.bounds n).low ≤ℤ (f.bounds n).high
  pub most : (n : ℕ) → IsKnown f n → (f.bounds n).high ≤ℤ MAX_BOUND
  pub within : (n : ℕ) (step : Step) → IsKnown f n → IsStep step
      → IsIn (f.bounds n) (f.value n step)

-- two sources give the same answer to every find, and the same bounds; their values may differ
pub record AreAlike (a b : Features) : Type 0 where
  pub find : (name : List ℕ) (argument : Option Argument)
      → b.find name argument ≡ a.find name argument
  pub bounds : (n : ℕ) → IsKnown a n → b.bounds n ≡ a.bounds n

abbrev pub value_found : (ℕ → ℤ) → Option ℕ → ℤ
value_found value (Some n) = value n
value_found value None = pos 0

-- the value of each feature at a step, by its name; an unknown one stands in no book that is bound
abbrev pub at_step : Features → Step → Valuation
at_step f step = λ name argument. value_found (λ n. f.value n step) (f.find name argument)

abbrev pub bounds_found : (ℕ → Span) → Option ℕ → Span
bounds_found bounds (Some n) = bounds n
bounds_found bounds None = from_to (pos 0) (pos 0)

-- the bounds of each feature, by its name
abbrev pub bounds_of : Features → Bounds
bounds_of f = λ name argument. bounds_found f.bounds (f.find name argument)

-- the values of the features lie in their bounds
abbrev pub AreWithin : Bounds → Valuation → Type 0
AreWithin bounds feature =
    (name : List ℕ) (argument : Option Argument) → IsIn (bounds name argument)
    (feature name argument)
