use Rattle.std.proofs.Common.{◌≡◌, false, sym, ◌∙◌, subst}
use Rattle.std.proofs.lemmas.List.{take_all}
use Rattle.std.proofs.lemmas.List.Elements.{All-more}
use Rattle.label_search.proofs.Puts.{none_covers}
use Rattle.label_search.proofs.candidate.first_cover.Goals as goal

pub returns : goal.returns
returns g c =
    let all = take_all c.loop-place.place c.args.candidates.now c.loop-place-test.false in
    absurd (none_covers (g.O.VectorOrder.no_worse c.args.order.now) c.args.candidates.now c.args.vector.now (rw all at c.loop-place.invariant) c.requires.covered)

pub loop-place-preserved : goal.loop-place-preserved
loop-place-preserved g c =
    let P : _ → Type 0 = λ x. g.O.VectorOrder.no_worse c.args.order.now x.vector c.args.vector.now ≡ false in
    All-more P c.args.candidates.now c.loop-place.place c.index-candidates-place.result c.loop-place-test.true c.loop-place.invariant
    (subst P c.index-candidates-place.is (rw (← c.as_slice.ensures.value) (sym c.no_worse.ensures ∙ c.if-no_worse.false)))
