use Rattle.std.proofs.Common.{◌+◌, ◌≤◌, length}
use Rattle.std.specs.Prelude.{nat_eq}
use Rattle.label_search.specs.Index.{items_at}
use Rattle.label_search.specs.Search.{AreByTick, IsSearched, choices_of}
use Rattle.label_search.proofs.tick_search.search_labels.Given as goal

abbrev pub invariant-loop-past : goal.invariant-loop-past
invariant-loop-past g l =
    let graph = g.G.StepGraph.graph l.graph in
    record {
      searched : IsSearched graph (g.O.VectorOrder.no_worse l.order) (l.past + 1) l.labels.items l.waiting.items;
      indexed : AreByTick graph l.waiting.items (items_at nat_eq l.by_tick);
      within : length l.labels.items ≤ l.limit;
      steps : l.steps ≤ l.fn.steps + choices_of graph l.labels.items;
    }
