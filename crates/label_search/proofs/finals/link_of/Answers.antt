use Rattle.std.proofs.Common.{◌≡◌, ℕ, length, refl, sym, ◌∙◌, subst}
use Rattle.std.specs.Prelude.{Some, slice_get}
use Rattle.std.proofs.lemmas.Option.{same_Some, slice_get_read}
use Rattle.std.proofs.lemmas.Result.{IfOk-weaker}
use Rattle.rulebook_order.specs.Graph.{finished}
use Rattle.rulebook_order.specs.VectorOrder.{IsVectorOrder}
use Rattle.label_search.specs.declared.arrival.Arrival.{Arrival}
use Rattle.label_search.specs.Candidates.{IsCovered}
use Rattle.label_search.proofs.GoalLabels.{own_final}
use Rattle.label_search.proofs.finals.link_of.Goals as goal

pub returns-then-has_number_at : goal.returns-then-has_number_at
returns-then-has_number_at g c = λ x at.
    let graph = g.G.StepGraph.graph c.args.graph.now in
    let order : IsVectorOrder graph.width (g.O.VectorOrder.no_worse c.args.order.now) = rw c.requires.order (g.met.O.VectorOrder.laws c.args.order.now) in
    own_final graph (g.met.G.StepGraph.laws c.args.graph.now) c.args.arrivals.now c.requires.reached (g.O.VectorOrder.no_worse c.args.order.now) order c.args.finals.now c.requires.from c.args.number x at (c.has_number_at.ensures c.if-has_number_at.true)

pub returns : goal.returns
returns g c =
    let graph = g.G.StepGraph.graph c.args.graph.now in
    let no_worse = g.O.VectorOrder.no_worse c.args.order.now in
    let arrivals = c.args.arrivals.now in
    let finals = c.args.finals.now in
    let x = c.index-arrivals-number.result in
    let here = slice_get_read arrivals (length arrivals) c.args.number x refl c.requires.number c.index-arrivals-number.is in
    IfOk-weaker c.final_for.result
    (λ (link : ℕ). (cover : IsCovered no_worse finals (finished graph x.state x.vector)) × (link ≡ cover.by.number))
    (λ (link : ℕ). (y : Arrival g.row.G-State.Denot) → slice_get arrivals c.args.number ≡ Some y → (cover : IsCovered no_worse finals (finished graph y.state y.vector)) × (link ≡ cover.by.number))
    (λ link found y at. subst (λ (z : Arrival g.row.G-State.Denot). (cover : IsCovered no_worse finals (finished graph z.state z.vector)) × (link ≡ cover.by.number)) (same_Some _ _ (sym here ∙ at)) found)
    c.final_for.ensures
