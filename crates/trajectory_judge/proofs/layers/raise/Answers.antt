use Rattle.std.proofs.Common.{◌≡◌, ◌<◌, ℕ, sym, ap, ◌∙◌, arith, length, List, subst, ⊎_elim}
use Rattle.std.proofs.lemmas.Bool.{both_ways, cases_eq}
use Rattle.std.specs.Prelude.{slice_index}
use Rattle.trajectory_judge.specs.declared.judged.Judged.{Judged}
use Rattle.trajectory_judge.specs.Peeling.{layers_of, raised, vectors_of}
use Rattle.trajectory_judge.proofs.JudgedRuns.{wide_alike}
use Rattle.trajectory_judge.proofs.Rounds.{raised_same}
use Rattle.trajectory_judge.proofs.layers.raise.Goals as goal
use Rattle.trajectory_judge.proofs.layers.raise.Goals.{then-raise_one, else-raise_one}

pub raise_one-requires-clause-width : goal.raise_one-requires-clause-width
raise_one-requires-clause-width g c = wide_alike c.args.runs.now c.loop-i.runs _ c.loop-i.invariant.0 c.requires.width

pub loop-i-preserved : goal.loop-i-preserved
loop-i-preserved g c =
    let nw = g.O.VectorOrder.no_worse c.args.order.now in
    let old = c.args.runs.now in
    let now = c.loop-i.runs in
    let i = c.loop-i.i in
    let inv = c.loop-i.invariant in
    let step = c.raise_one.ensures in
    let inside : i < length old = omega (arith, c.loop-i-test.true, ap (length {A = Judged}) c.as_slice-i-end.ensures) in
    let here : slice_index (layers_of c.raise_one.new.runs) i ≡ raised nw (vectors_of old) (layers_of old) c.args.round i =
    step.here ∙ (ap (λ (vs : List (List ℕ)). raised nw vs (layers_of now) c.args.round i) inv.0.vectors ∙ raised_same nw (vectors_of old) c.args.round (layers_of old) (layers_of now) i inv.1 inv.2) in (
      record { names = step.alike.names ∙ inv.0.names; vectors = step.alike.vectors ∙ inv.0.vectors },
      λ k below. ⊎_elim
          (λ (e : k ≡ i). subst (λ j. slice_index (layers_of c.raise_one.new.runs) j ≡ raised nw (vectors_of old) (layers_of old) c.args.round j) (sym e) here)
          (λ (ne : k ≡ i → ⊥). step.others k ne ∙ inv.1 k (omega (arith, below, ne)))
          (cases_eq k i),
      λ k above. step.others k (omega (arith, above)) ∙ inv.2 k (omega (arith, above)),
      λ none. elim c.if-raise_one.branch [
        | then-raise_one w ↦ absurd (both_ways _ none (w.is_raised-is ∙ w.if-raise_one.true))
        | else-raise_one w ↦ step.none w.if-raise_one.false ∙ inv.3 (sym w.is_raised-is ∙ none)
      ],
      λ some. elim c.if-raise_one.branch [
        | then-raise_one w ↦ (i, inside, sym (inv.2 i (omega arith)) ∙ step.some w.if-raise_one.true)
        | else-raise_one w ↦ inv.4 (sym w.is_raised-is ∙ some)
      ],
    )
