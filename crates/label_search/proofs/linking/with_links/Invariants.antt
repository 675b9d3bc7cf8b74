use Rattle.std.proofs.Common.{◌≡◌, take, length}
use Rattle.std.specs.Prelude.{All, map}
use Rattle.rulebook_order.specs.VectorOrder.{Holds}
use Rattle.label_search.specs.Found.{HasLinks}
use Rattle.label_search.specs.Linking.{arrival_of}
use Rattle.label_search.specs.Search.{extensions_from, pair_of}
use Rattle.label_search.proofs.linking.with_links.Given as goal

abbrev pub invariant-loop-arrival : goal.invariant-loop-arrival
invariant-loop-arrival g l =
    let graph = g.G.StepGraph.graph l.graph in
    record {
      next : l.next ≡ length (extensions_from graph 0 (take l.arrival-index l.arrivals));
      arrivals : map arrival_of l.labels ≡ take l.arrival-index l.arrivals;
      links : All (HasLinks graph (Holds (g.O.VectorOrder.no_worse l.order)) (map pair_of l.arrivals)) l.labels;
    }
