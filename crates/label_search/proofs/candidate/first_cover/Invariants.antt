use Rattle.std.proofs.Common.{◌≡◌, false, take}
use Rattle.std.specs.Prelude.{All}
use Rattle.label_search.proofs.candidate.first_cover.Given as goal

abbrev pub invariant-loop-place : goal.invariant-loop-place
invariant-loop-place g l = All (λ x. g.O.VectorOrder.no_worse l.order x.vector l.vector ≡ false) (take l.place l.candidates)
