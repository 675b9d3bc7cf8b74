use Rattle.std.proofs.Common.{◌+◌, ◌<◌, length, arith, ap}
use Rattle.std.proofs.lemmas.List.{length-map}
use Rattle.rulebook_order.specs.VectorOrder.{IsVectorOrder}
use Rattle.label_search.specs.declared.arrival.Arrival.{Arrival}
use Rattle.label_search.specs.declared.label.Label.{Label}
use Rattle.label_search.specs.Linking.{arrival_of}
use Rattle.label_search.proofs.Undominated.{AreUndominated-labels}
use Rattle.label_search.proofs.Whole.{pairs_of-arrivals, parents_are}
use Rattle.label_search.proofs.searching.linked.Goals as goal

pub returns : goal.returns
returns g c =
    let graph = g.G.StepGraph.graph c.args.graph.now in
    let no_worse = g.O.VectorOrder.no_worse c.args.order.now in
    let laws = g.met.G.StepGraph.laws c.args.graph.now in
    let order : IsVectorOrder graph.width no_worse = rw c.requires.order (g.met.O.VectorOrder.laws c.args.order.now) in
    let arrivals = c.args.searched.now.labels.items in
    let searched = c.requires.searched in
    let made = c.in_ok-labels.ensures {u = tt} in
    let ends = c.in_ok-finals.ensures {u = tt} in
    let labels = c.in_ok-labels.labels in
    let pairs = pairs_of-arrivals labels arrivals made.arrivals in
    let done : graph.last < graph.last + 1 = omega arith in
    record {
      labels = rw pairs (AreUndominated-labels graph no_worse laws order (graph.last + 1) arrivals c.args.searched.now.extensions.items searched done);
      parents = parents_are graph labels arrivals made.arrivals searched.parents;
      links = rw pairs made.links;
      finals = rw pairs ends.finals;
      goal_links = rw pairs ends.goal_links;
      count = omega (arith, ap (length {A = Arrival g.row.G-State.Denot}) made.arrivals, length-map labels (λ (x : Label g.row.G-State.Denot). arrival_of x));
    }
