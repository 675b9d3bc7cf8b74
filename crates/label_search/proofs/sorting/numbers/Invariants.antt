use Rattle.std.proofs.Common.{◌≡◌, take}
use Rattle.std.specs.Prelude.{map}
use Rattle.label_search.proofs.sorting.numbers.Given as goal

abbrev pub invariant-loop-candidate : goal.invariant-loop-candidate
invariant-loop-candidate l = l.numbers.items ≡ map (λ x. x.number) (take l.candidate-index l.candidates)
