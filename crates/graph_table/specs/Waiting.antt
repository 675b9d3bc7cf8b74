-- The states that wait for their tick.
use Rattle.std.specs.Prelude.{◌≡◌, ℕ, ◌<◌, Bool, List, [], Vec, Option, Some, None, filter, nat_eq}
use Rattle.std.specs.declared.alloc.Global.{Global}
use Rattle.indexmap.specs.IndexMap.{IndexMap, get}
use Rattle.rulebook_order.specs.Graph.{Graph}
use Rattle.graph_table.specs.Visits.{is_at_tick, each_choice, rows_from, visited}
use Rattle.graph_table.specs.declared.visit.Visit.{Visit}

abbrev pub items_in : {T : Type 0} → Option (Vec T Global) → List T
items_in None = []
items_in (Some items) = items.items

-- the items of a key; none where it has no entry
abbrev pub items_at : {K T H : Type 0} → (K → K → Bool) → IndexMap K (Vec T Global) H → K → List T
items_at eq map key = items_in (get eq map key)

-- at the tick wait those of the states led to that have it
abbrev pub WaitsAt : {S : Type 0} → Graph S → Visit S → ℕ → Type 0
WaitsAt g visit tick = items_at nat_eq visit.waiting tick ≡ filter (is_at_tick g tick) visit.nexts

-- where those of a tick wait, they still do
abbrev pub KeepsWaiting : {S : Type 0} → Graph S → Visit S → Visit S → Type 0
KeepsWaiting g old new = (tick : ℕ) → WaitsAt g old tick → WaitsAt g new tick

-- the rows, the states led to and the vectors are those of the states
pub record HasVisited {S : Type 0} (g : Graph S) (states : List S) (visit : Visit S)
    : Type 0 where
  pub rows : visit.rows ≡ rows_from g 0 states
  pub nexts : visit.nexts ≡ each_choice g g.next states
  pub costs : visit.costs ≡ each_choice g g.cost states

-- the states are those of the order of visit up to a tick, they are visited, and what they lead to
-- at later ticks waits
pub record IsVisitedTo {S : Type 0} (eq : S → S → Bool) (g : Graph S) (tick : ℕ)
    (states : List S) (visit : Visit S) : Type 0 where
  pub states_are : states ≡ visited eq g tick
  pub kept : HasVisited g states visit
  pub waiting : (later : ℕ) → tick < later → WaitsAt g visit later
