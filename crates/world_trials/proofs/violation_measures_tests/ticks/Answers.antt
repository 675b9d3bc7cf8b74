use Rattle.std.proofs.Common.{◌≡◌, ℕ, ◌+◌, List, [], ◌∷◌, ◌++◌, length, length-append, All, ap, sym, subst, arith}
use Rattle.std.proofs.lemmas.List.Elements.{All-push}
use Rattle.violation_measures.specs.Steps.{IsStep}
use Rattle.violation_measures.specs.declared.step.Step.{Step}
use Rattle.world_trials.proofs.violation_measures_tests.ticks.Goals as goal

one_more : (steps new : List Step) (step : Step) (n : ℕ) → new ≡ steps ++ step ∷ [] → (length steps ≡ n) × All IsStep steps → IsStep step → (length new ≡ n + 1) × All IsStep new
one_more steps new step n e h good =
    (omega (arith, ap (length {A = Step}) e, length-append steps (step ∷ []), h.0), subst (λ (ss : List Step). All IsStep ss) (sym e) (All-push IsStep steps step h.1 good))

pub loop-tick-preserved : goal.loop-tick-preserved
loop-tick-preserved c = one_more c.loop-tick.steps c.push.new.self c.step.result c.loop-tick.tick c.in_ok-push.ensures.ok c.loop-tick.invariant c.step.ensures
