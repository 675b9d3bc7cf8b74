use Rattle.std.proofs.Common.{rules, ◌≡◌, ◌<◌, ℕ, List, length, ap, sym, subst, ◌∙◌}
use Rattle.rulebook_order.specs.StepGraph.{HasRoom}
use Rattle.violation_measures.specs.declared.amount.TheConstants.{MAX_AMOUNT}
use Rattle.violation_measures.proofs.VectorLaws.{run_up_to, room_after, vector_after, vector_of_none}
use Rattle.violation_measures.proofs.bound.Bound.trajectory_vector.Goals as goal

pub returns-then-is_empty : goal.returns-then-is_empty
returns-then-is_empty g c =
    let f = g.S.FeatureSource.features c.args.source.now in
    let none : length c.args.steps.now ≡ 0 = search rules in
    c.in_ok-vector.ensures ∙ vector_of_none f c.args.self.now c.args.steps.now none

pub add_end-requires-clause-width : goal.add_end-requires-clause-width
add_end-requires-clause-width g c =
    let f = g.S.FeatureSource.features c.args.source.now in
    ap length c.in_ok-vector.ensures ∙ (run_up_to f c.args.self.now c.args.steps.now c.requires.source).width

pub add_end-requires-clause-room : goal.add_end-requires-clause-room
add_end-requires-clause-room g c =
    let f = g.S.FeatureSource.features c.args.source.now in
    subst (λ (xs : List ℕ). HasRoom MAX_AMOUNT xs) (sym c.in_ok-vector.ensures) (room_after f c.args.self.now c.args.steps.now c.requires.source c.requires.few)

pub returns : goal.returns
returns g c =
    let f = g.S.FeatureSource.features c.args.source.now in
    let some : 0 < length c.args.steps.now = search rules in
    vector_after f c.args.self.now c.args.steps.now _ c.in_ok-vector.vector _ c.add_end.ensures c.in_ok-vector.ensures some
