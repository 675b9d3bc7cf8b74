use Rattle.std.proofs.Common.{◌≡◌, false, sym, ◌∙◌, arith, length, below_more}
use Rattle.std.specs.Prelude.{◌&&◌, nat_le, slice_index}
use Rattle.rulebook_order.specs.laws.Below.{any_below-from}
use Rattle.rulebook_order.specs.Front.{vector_at}
use Rattle.trajectory_judge.specs.Layers.{beats_at}
use Rattle.trajectory_judge.specs.Peeling.{layers_of, vectors_of}
use Rattle.trajectory_judge.proofs.JudgedRuns.{same_size, test_at, vector_of}
use Rattle.trajectory_judge.proofs.Peeled.{any_below-none}
use Rattle.trajectory_judge.proofs.layers.is_beaten.Goals as goal

pub returns-then-still_beats : goal.returns-then-still_beats
returns-then-still_beats g c =
    let runs = c.args.runs.now in
    let k = c.loop-other.other-index in
    let nw = g.O.VectorOrder.no_worse c.args.order.now in
    let at : vector_at (vectors_of runs) c.args.i ≡ c.as_slice-vector.result.now = vector_of runs c.args.i c.index-runs-i.result c.requires.inside ∙ sym c.as_slice-vector.ensures.value in
    let here = test_at nw runs c.args.round c.args.i k c.other-item.result c.as_slice-vector.result.now c.requires.inside c.loop-other-test.true c.other-item.is at in
    sym (any_below-from (λ j. nat_le c.args.round (slice_index (layers_of runs) j) && beats_at nw (vectors_of runs) j c.args.i) (length (vectors_of runs)) k (omega (arith, same_size runs, c.loop-other-test.true))
    (here ∙ (sym c.still_beats.ensures ∙ c.if-still_beats.true)))

pub loop-other-preserved : goal.loop-other-preserved
loop-other-preserved g c =
    let runs = c.args.runs.now in
    let k = c.loop-other.other-index in
    let nw = g.O.VectorOrder.no_worse c.args.order.now in
    let at : vector_at (vectors_of runs) c.args.i ≡ c.as_slice-vector.result.now = vector_of runs c.args.i c.index-runs-i.result c.requires.inside ∙ sym c.as_slice-vector.ensures.value in
    let here = test_at nw runs c.args.round c.args.i k c.other-item.result c.as_slice-vector.result.now c.requires.inside c.loop-other-test.true c.other-item.is at in
    below_more (λ j. (nat_le c.args.round (slice_index (layers_of runs) j) && beats_at nw (vectors_of runs) j c.args.i) ≡ false) k c.loop-other.invariant (here ∙ (sym c.still_beats.ensures ∙ c.if-still_beats.false))

pub returns : goal.returns
returns g c =
    let runs = c.args.runs.now in
    let nw = g.O.VectorOrder.no_worse c.args.order.now in
    sym (any_below-none (λ j. nat_le c.args.round (slice_index (layers_of runs) j) && beats_at nw (vectors_of runs) j c.args.i) (length (vectors_of runs))
    (λ j inside. c.loop-other.invariant j (omega (arith, inside, same_size runs, c.loop-other-test.false))))
