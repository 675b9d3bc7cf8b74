use Rattle.std.proofs.Common.{rules, ◌<◌, ℕ, List, length, take, ap, sym, subst, ◌∙◌}
use Rattle.std.specs.Prelude.{replicate}
use Rattle.rulebook_order.specs.StepGraph.{HasRoom}
use Rattle.violation_measures.specs.declared.amount.TheConstants.{MAX_AMOUNT}
use Rattle.violation_measures.proofs.VectorLaws.{run_none, run_after, run_up_to, room_after, steps_within}
use Rattle.violation_measures.proofs.bound.Bound.run.Goals as goal

pub loop-step-init : goal.loop-step-init
loop-step-init g c =
    let f = g.S.FeatureSource.features c.args.source.now in
    c.in_ok-vector.ensures.ok ∙ ap (λ (n : ℕ). replicate n 0) c.width.ensures ∙ sym (run_none f c.args.self.now)

pub add_step-requires-clause-width : goal.add_step-requires-clause-width
add_step-requires-clause-width g c =
    let f = g.S.FeatureSource.features c.args.source.now in
    ap length c.loop-step.invariant ∙ (run_up_to f c.args.self.now (take c.loop-step.step-index c.args.steps.now) c.requires.source).width

pub add_step-requires-clause-room : goal.add_step-requires-clause-room
add_step-requires-clause-room g c =
    let f = g.S.FeatureSource.features c.args.source.now in
    let steps = take c.loop-step.step-index c.args.steps.now in
    subst (λ (xs : List ℕ). HasRoom MAX_AMOUNT xs) (sym c.loop-step.invariant) (room_after f c.args.self.now steps c.requires.source (steps_within c.args.steps.now c.loop-step.step-index c.requires.few))

pub loop-step-preserved : goal.loop-step-preserved
loop-step-preserved g c =
    let f = g.S.FeatureSource.features c.args.source.now in
    let within : c.loop-step.step-index < length c.args.steps.now = search rules in
    run_after f c.args.self.now c.args.steps.now c.loop-step.step-index _ c.loop-step.vector _ c.add_step.ensures c.loop-step.invariant within
