-- The states of a table that some list of choices reaches have a place among the graph's.
use Rattle.std.proofs.Common.{◌<◌, List, length, get_or}
use Rattle.std.proofs.lemmas.Option.{slice_get_within, slice_get-get_or}
use Rattle.rulebook_order.specs.Graph.{Graph, IsStateOf}
use Rattle.graph_table.specs.Alike.{AreAlike}
use Rattle.graph_table.specs.Tables.{IsAt, table_graph}
use Rattle.graph_table.specs.declared.entries.Entries.{Entries}
use Rattle.graph_table.specs.declared.state.TableState.{TableState}
use Rattle.graph_table.proofs.AlikeLaws.{flipped, stands}

module _ {S : Type 0} (g : Graph S) (states : List S) (entries : Entries) (alike : AreAlike g (table_graph entries) (IsAt states)) where
  pub inside : (t : TableState) → IsStateOf (table_graph entries) t → t.index < length states
  inside t reached =
      let x = stands (table_graph entries) g (λ t s. IsAt states s t) (flipped g (table_graph entries) (IsAt states) alike) t reached in
      slice_get_within states t.index x.0 x.1

  pub at_place : (other : S) (t : TableState) → IsStateOf (table_graph entries) t → IsAt states (get_or states t.index other) t
  at_place other t reached = slice_get-get_or states t.index other (inside t reached)
