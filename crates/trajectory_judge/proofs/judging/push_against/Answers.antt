use Rattle.std.proofs.Common.{◌≡◌, ℕ, ◌+◌, ◌≤◌, ◌∙◌, sym, subst, List, arith}
use Rattle.std.proofs.lemmas.List.Elements.{All-push}
use Rattle.rulebook_order.specs.Front.{vector_at}
use Rattle.rulebook_order.specs.NoWorseBy.{IsVerdictBy}
use Rattle.trajectory_judge.specs.Judgements.{HasVerdict}
use Rattle.trajectory_judge.specs.Peeling.{vectors_of}
use Rattle.trajectory_judge.proofs.JudgedRuns.{vector_of}
use Rattle.trajectory_judge.proofs.Measuring.{pairs_pushed}
use Rattle.trajectory_judge.proofs.judging.push_against.Goals as goal

pub loop-j-preserved : goal.loop-j-preserved
loop-j-preserved c =
    let runs = c.args.runs.now in
    let i = c.args.i in
    let j = c.loop-j.j in
    let verdict = c.compare-verdict.result in
    let later : i + 1 ≤ j = c.loop-j.invariant.2 in
    let at_i : vector_at (vectors_of runs) i ≡ c.as_slice-vector.result.now = vector_of runs i c.index-runs-i.result c.requires.inside ∙ sym c.as_slice-vector.ensures.value in
    let at_j : vector_at (vectors_of runs) j ≡ c.as_slice.result.now = vector_of runs j c.index-runs-j.result c.loop-j-test.true ∙ sym c.as_slice.ensures.value in
    let here : IsVerdictBy c.args.order.now (vector_at (vectors_of runs) i) (vector_at (vectors_of runs) j) verdict =
    subst (λ (x : List ℕ). IsVerdictBy c.args.order.now x (vector_at (vectors_of runs) j) verdict) (sym at_i)
    (subst (λ (y : List ℕ). IsVerdictBy c.args.order.now c.as_slice-vector.result.now y verdict) (sym at_j) c.compare-verdict.ensures) in
    rw (c.in_ok-push.ensures.ok) (
      pairs_pushed i j verdict c.loop-j.pairs c.args.pairs.now later c.loop-j.invariant.0,
      All-push (HasVerdict (IsVerdictBy c.args.order.now) (vectors_of runs)) c.loop-j.pairs (i, j, verdict) c.loop-j.invariant.1 here,
      omega (arith, later),
    )
