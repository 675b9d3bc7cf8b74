-- The labels of a table at the states of its graph.
use Rattle.std.specs.Prelude.{List, slice_index_or}
use Rattle.graph_table.specs.declared.state.TableState.{TableState}
use Rattle.label_search.specs.declared.label.Label.{Label}

-- the same label at the state of the graph, by its place among the states
abbrev pub relabeled : {S : Type 0} → List S → S → Label TableState → Label S
relabeled states other label =
    record {
      state = slice_index_or states label.state.index other;
      vector = label.vector;
      parent = label.parent;
      choice = label.choice;
      links = label.links;
    }
