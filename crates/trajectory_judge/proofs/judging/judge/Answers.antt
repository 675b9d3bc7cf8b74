use Rattle.std.proofs.Common.{◌≡◌, ◌∙◌, ap, subst, List, arith}
use Rattle.std.specs.Prelude.{All, slice_index}
use Rattle.preorder.specs.Preorder.{rules_of}
use Rattle.preorder.specs.declared.order.Preorder.{Preorder}
use Rattle.rulebook_order.specs.NoWorseBy.{IsVerdictBy, NoWorseBy, no_worse_by}
use Rattle.rulebook_order.specs.PairOrder.{order_of}
use Rattle.rulebook_order.specs.VectorOrder.{Holds}
use Rattle.rulebook_order.specs.laws.PairLaws.{no_worse_by-words}
use Rattle.violation_measures.specs.Vectors.{width}
use Rattle.trajectory_judge.specs.Judgements.{HasVerdict}
use Rattle.trajectory_judge.specs.Layers.{IsLayerOf}
use Rattle.trajectory_judge.specs.Peeling.{layers_of, vectors_of}
use Rattle.trajectory_judge.specs.declared.judged.Judged.{Judged}
use Rattle.trajectory_judge.proofs.Chains.{layer_by}
use Rattle.trajectory_judge.proofs.JudgedRuns.{alike_size, wide_alike, wide_of}
use Rattle.trajectory_judge.proofs.Measuring.{measured_wide}
use Rattle.trajectory_judge.proofs.judging.judge.Goals as goal

pub peel-requires-clause-width : goal.peel-requires-clause-width
peel-requires-clause-width g c =
    let f = g.S.FeatureSource.features c.args.source.now in
    let rules : rules_of (order_of c.new.result) ≡ width c.args.bound.now = ap rules_of c.new.ensures ∙ c.requires.order in
    rw rules (wide_of c.in_ok-runs.runs (width c.args.bound.now) (rw (c.in_ok-runs.ensures.vectors) (measured_wide f c.args.bound.now c.args.records.now)))

pub compare_all-requires-clause-width : goal.compare_all-requires-clause-width
compare_all-requires-clause-width g c =
    let f = g.S.FeatureSource.features c.args.source.now in
    let wide = wide_of c.in_ok-runs.runs (width c.args.bound.now) (rw (c.in_ok-runs.ensures.vectors) (measured_wide f c.args.bound.now c.args.records.now)) in
    rw (c.as_slice.ensures, c.requires.order) (wide_alike c.in_ok-runs.runs c.peel.new.runs (width c.args.bound.now) c.peel.ensures.alike wide)

pub returns-clause-layers : goal.returns-clause-layers
returns-clause-layers g c i inside =
    let runs = c.peel.new.runs in
    let layer : IsLayerOf (Holds (no_worse_by (order_of c.new.result))) (vectors_of runs) i (slice_index (layers_of runs) i) =
    c.peel.ensures.layers i (omega (arith, inside, alike_size c.in_ok-runs.runs runs c.peel.ensures.alike)) in
    layer_by (no_worse_by c.args.order.now) (NoWorseBy c.args.order.now) (no_worse_by-words c.args.order.now) (vectors_of runs) i (slice_index (layers_of runs) i)
    (subst (λ (order : Preorder). IsLayerOf (Holds (no_worse_by order)) (vectors_of runs) i (slice_index (layers_of runs) i)) c.new.ensures layer)

pub returns-clause-verdicts : goal.returns-clause-verdicts
returns-clause-verdicts g c =
    subst (λ (runs : List Judged). All (HasVerdict (IsVerdictBy c.args.order.now) (vectors_of runs)) c.in_ok-pairs.pairs) c.as_slice.ensures c.in_ok-pairs.ensures.verdicts
