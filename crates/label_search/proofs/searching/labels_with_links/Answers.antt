use Rattle.std.proofs.lemmas.List.Elements.{All-weaker}
use Rattle.rulebook_order.specs.Graph.{IsReached}
use Rattle.rulebook_order.specs.VectorOrder.{IsVectorOrder}
use Rattle.label_search.specs.Search.{IsCoveredAt, extensions_from}
use Rattle.label_search.proofs.Turns.{reached_extensions}
use Rattle.label_search.proofs.Whole.{covered_at_end}
use Rattle.label_search.proofs.searching.labels_with_links.Goals as goal

pub with_links-requires-clause-covered : goal.with_links-requires-clause-covered
with_links-requires-clause-covered g c =
    let graph = g.G.StepGraph.graph c.args.graph.now in
    let no_worse = g.O.VectorOrder.no_worse c.args.order.now in
    let laws = g.met.G.StepGraph.laws c.args.graph.now in
    let order : IsVectorOrder graph.width no_worse = rw c.requires.order (g.met.O.VectorOrder.laws c.args.order.now) in
    let labels = c.args.searched.now.labels.items in
    let searched = c.requires.searched in
    rw (c.as_slice-extensions.ensures.value, c.as_slice-labels.ensures.value, searched.extensions_are) (All-weaker (λ x. IsReached graph x.state x.vector) (λ x. IsCoveredAt no_worse labels x.state x.vector)
    (λ x r. covered_at_end graph laws no_worse order labels c.args.searched.now.extensions.items searched x.state x.vector r)
    (extensions_from graph 0 labels) (reached_extensions graph labels searched.reached))
