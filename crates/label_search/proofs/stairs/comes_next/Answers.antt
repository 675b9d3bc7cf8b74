use Rattle.std.proofs.Common.{length, refl, subst, sym, arith}
use Rattle.std.proofs.lemmas.Option.{slice_get_read}
use Rattle.label_search.specs.declared.candidate.Candidate.{Candidate}
use Rattle.label_search.specs.Stairs.{IsStep}
use Rattle.label_search.proofs.StairSteps.{next_after}
use Rattle.label_search.proofs.stairs.comes_next.Goals as goal

pub returns : goal.returns
returns g c = λ t.
    let candidates = c.args.candidates.now in
    let x = c.index-candidates-count.result in
    let by = c.requires.stairs c.if-not-stairs.false in
    let at = slice_get_read candidates (length candidates) _ x refl (omega arith) c.index-candidates-count.is in
    (c.if-not-stairs.false, next_after candidates _ x c.args.vector.now (omega arith) at by.stairs (subst (λ (y : Candidate). IsStep y.vector c.args.vector.now) (sym c.index-candidates-count.is) (rw c.as_slice.ensures.value at (c.is_step.ensures t))))
