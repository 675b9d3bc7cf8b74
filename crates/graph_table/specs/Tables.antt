-- A table as a graph, and when it is the table of another graph.
use Rattle.std.specs.Prelude.{◌≡◌, ℕ, ◌+◌, ◌<◌, ◌≤◌, ◌^◌, false, List, length, replicate, All}
use Rattle.std.specs.Prelude.{Option, None, Some, slice_get, slice_index_or, AllPairs, Contains}
use Rattle.std.specs.Prelude.{◌≢◌, ◌↔◌}
use Rattle.rulebook_order.specs.Graph.{Graph, IsStateOf}
use Rattle.graph_table.specs.Alike.{AreAlike}
use Rattle.graph_table.specs.declared.entries.Entries.{Entries}
use Rattle.graph_table.specs.declared.entries.StateRow.{StateRow}
use Rattle.graph_table.specs.declared.state.TableState.{TableState}

-- what stands at a state that is not in the table: no choice, tick 0, and no goal
abbrev pub no_row : ℕ → StateRow
no_row width = record { from = 0; choices = 0; tick = 0; goal = false; finish = replicate width 0 }

abbrev pub row_in : ℕ → Option StateRow → StateRow
row_in width None = no_row width
row_in width (Some row) = row

-- the row of a state
abbrev pub row_of : Entries → TableState → StateRow
row_of entries t = row_in entries.width (slice_get entries.rows t.index)

-- the table as a graph: its first state is the start, and what a choice leads to and adds stands
-- at the choice's place after the place where the state's choices begin
abbrev pub table_graph : Entries → Graph TableState
table_graph entries = record {
  width = entries.width;
  last = entries.last;
  step_limit = entries.step_limit;
  start = record { index = 0 };
  first = entries.first;
  choices = λ t. (row_of entries t).choices;
  next = λ t c. slice_index_or entries.nexts ((row_of entries t).from + c) t;
  cost = λ t c. slice_index_or entries.costs ((row_of entries t).from + c)
      (replicate entries.width 0);
  finish = λ t. (row_of entries t).finish;
  goal = λ t. (row_of entries t).goal;
  tick = λ t. (row_of entries t).tick;
}

-- the choices of each row are among those that the table has
pub record AreInside (entries : Entries) : Type 0 where
  pub rows : All (λ (row : StateRow). row.from + row.choices ≤ length entries.nexts) entries.rows
  pub costs : length entries.costs ≡ length entries.nexts
  pub fits : length entries.nexts < 2 ^ 64

-- the state of the graph that a state of the table stands for
abbrev pub IsAt : {S : Type 0} → List S → S → TableState → Type 0
IsAt states s t = slice_get states t.index ≡ Some s

-- the states are exactly those that some list of choices reaches, each once
pub record AreReached {S : Type 0} (g : Graph S) (states : List S) : Type 0 where
  pub exact : (s : S) → Contains states s ↔ IsStateOf g s
  pub once : AllPairs (λ s t. s ≢ t) states

-- there are more than this many states that some list of choices reaches
pub record HasMoreStates {S : Type 0} (g : Graph S) (limit : ℕ) : Type 0 where
  pub states : List S
  pub reached : All (IsStateOf g) states
  pub once : AllPairs (λ s t. s ≢ t) states
  pub more : limit < length states

-- the entries are those of the graph over all states that it reaches
pub record IsTableOf {S : Type 0} (g : Graph S) (states : List S) (entries : Entries)
    : Type 0 where
  pub each_once : AreReached g states
  pub alike : AreAlike g (table_graph entries) (IsAt states)
