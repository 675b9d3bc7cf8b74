-- At a step that keeps to its ranges the features of a source lie in their bounds.
use Rattle.std.proofs.Common.{◌≡◌, pos, List, ℕ, Option, Some, None, refl, arith}
use Rattle.std.proofs.lemmas.Int.{ints}
use Rattle.expressions.specs.declared.tree.Argument.{Argument}
use Rattle.violation_measures.specs.Intervals.{IsIn, from_to}
use Rattle.violation_measures.specs.Sources.{Features, AreSound, AreWithin, at_step, bounds_of, value_found, bounds_found}
use Rattle.violation_measures.specs.Steps.{IsStep}
use Rattle.violation_measures.specs.declared.step.Step.{Step}

nothing_within : IsIn (from_to (pos 0) (pos 0)) (pos 0)
nothing_within = record { above = omega (arith, ints); below = omega (arith, ints) }

found_within : (f : Features) (step : Step) → AreSound f → IsStep step → (name : List ℕ) (argument : Option Argument) (found : Option ℕ) → f.find name argument ≡ found
    → IsIn (bounds_found f.bounds found) (value_found (λ n. f.value n step) found)
found_within f step sound good name argument None e = nothing_within
found_within f step sound good name argument (Some n) e = sound.within n step (name, argument, e) good

pub within_bounds : (f : Features) (step : Step) → AreSound f → IsStep step → AreWithin (bounds_of f) (at_step f step)
within_bounds f step sound good = λ name argument. found_within f step sound good name argument (f.find name argument) refl
