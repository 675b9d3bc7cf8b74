-- The order in which the states of a graph are visited: tick after tick, and within a tick in the
-- order in which they are first reached.
use Rattle.std.specs.Prelude.{◌≡◌, ℕ, ◌+◌, Bool, List, [], ◌∷◌, ◌++◌, filter, nat_eq}
use Rattle.std.specs.List.{AllZip}
use Rattle.std.proofs.Common.{zero, suc}
use Rattle.indexmap.specs.IndexSet.{insert_all}
use Rattle.rulebook_order.specs.Graph.{Graph}
use Rattle.graph_table.specs.Tables.{IsAt}
use Rattle.graph_table.specs.declared.entries.Entries.{Entries}
use Rattle.graph_table.specs.declared.entries.StateRow.{StateRow}

-- what stands for each choice of a state below a number
abbrev pub each_below : {S X : Type 0} → (S → ℕ → X) → S → ℕ → List X
each_below f s zero = []
each_below f s (suc c) = each_below f s c ++ f s c ∷ []

-- what stands for each choice of each of the states, one state after the other
abbrev pub each_choice : {S X : Type 0} → Graph S → (S → ℕ → X) → List S → List X
each_choice g f [] = []
each_choice g f (s ∷ states) = each_below f s (g.choices s) ++ each_choice g f states

-- the state has the tick
abbrev pub is_at_tick : {S : Type 0} → Graph S → ℕ → S → Bool
is_at_tick g tick s = nat_eq (g.tick s) tick

-- what choices of the states lead to at a tick, in the order of the states and of their choices
abbrev pub arriving : {S : Type 0} → Graph S → List S → ℕ → List S
arriving g states tick = filter (is_at_tick g tick) (each_choice g g.next states)

-- the states up to a tick that some list of choices reaches, in the order of visit: those of the
-- tick come after those of earlier ticks, each where it is first reached from these
abbrev pub visited : {S : Type 0} → (S → S → Bool) → Graph S → ℕ → List S
visited eq g zero = g.start ∷ []
visited eq g (suc tick) =
    insert_all eq (visited eq g tick) (arriving g (visited eq g tick) (suc tick))

-- the row of a state whose choices begin at a place
abbrev pub row_for : {S : Type 0} → Graph S → S → ℕ → StateRow
row_for g s from = record {
  from = from;
  choices = g.choices s;
  tick = g.tick s;
  goal = g.goal s;
  finish = g.finish s;
}

-- the rows of the states, one after the other
abbrev pub rows_from : {S : Type 0} → Graph S → ℕ → List S → List StateRow
rows_from g from [] = []
rows_from g from (s ∷ states) = row_for g s from ∷ rows_from g (from + g.choices s) states

-- how many choices the states have together
abbrev pub choices_of : {S : Type 0} → Graph S → List S → ℕ
choices_of g [] = 0
choices_of g (s ∷ states) = g.choices s + choices_of g states

-- the entries are those of the graph over the states
pub record AreEntriesOf {S : Type 0} (g : Graph S) (states : List S) (entries : Entries)
    : Type 0 where
  pub width : entries.width ≡ g.width
  pub last : entries.last ≡ g.last
  pub step_limit : entries.step_limit ≡ g.step_limit
  pub first : entries.first ≡ g.first
  pub rows : entries.rows ≡ rows_from g 0 states
  pub nexts : AllZip (IsAt states) (each_choice g g.next states) entries.nexts
  pub costs : entries.costs ≡ each_choice g g.cost states
