use Rattle.std.proofs.Common.{◌≡◌, take}
use Rattle.std.specs.Prelude.{map}
use Rattle.label_search.specs.declared.candidate.Candidate.{Candidate}
use Rattle.label_search.proofs.sorting.by_vector.Given as goal

abbrev pub invariant-loop-place : goal.invariant-loop-place
invariant-loop-place g l = map (λ (x : Candidate). x.number) l.keyed.items ≡ take l.place-index l.places
