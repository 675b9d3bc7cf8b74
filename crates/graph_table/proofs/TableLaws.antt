-- The entries of a graph over the states visited are a table of it.
use Rattle.std.proofs.Common.{◌≡◌, ℕ, ◌<◌, ◌≤◌, ◌+◌, ◌^◌, List, length, refl, sym, ap, ◌∙◌, subst, arith, inl, inr, take, replicate}
use Rattle.std.specs.Cmp.{IsEquivalence}
use Rattle.std.specs.Prelude.{All, AllPairs, ◌≢◌, slice_get, Some, true, Bool}
use Rattle.std.proofs.lemmas.Bool.{cases_order}
use Rattle.std.proofs.lemmas.List.Elements.{All-weaker}
use Rattle.std.proofs.lemmas.Option.{same_Some, get_or_from_slice_get}
use Rattle.rulebook_order.specs.Graph.{Graph}
use Rattle.rulebook_order.specs.StepGraph.{IsStepGraph}
use Rattle.rulebook_order.proofs.Lists.{pair_at}
use Rattle.graph_table.specs.Alike.{AreAlike}
use Rattle.graph_table.specs.Tables.{row_in, row_of, table_graph, AreInside, IsAt, IsTableOf}
use Rattle.graph_table.specs.Visits.{each_choice, row_for, rows_from, choices_of, visited, AreEntriesOf}
use Rattle.graph_table.specs.declared.entries.Entries.{Entries}
use Rattle.graph_table.specs.declared.entries.StateRow.{StateRow}
use Rattle.graph_table.specs.declared.state.TableState.{TableState}
use Rattle.graph_table.proofs.AlikeLaws.{laws_alike}
use Rattle.graph_table.proofs.Choices.{each_at, row_at, rows_inside, length_each}
use Rattle.graph_table.proofs.Zips.{zip_at, zip_length}
use Rattle.graph_table.proofs.VisitLaws.{visited_up_to, are_reached}

same_index : (t u : TableState) → t.index ≡ u.index → t ≡ u
same_index t u e = λ i. record { index = e i }

module _ {S : Type 0} (g : Graph S) (states : List S) (entries : Entries) (are : AreEntriesOf g states entries) where
  row_is : (s : S) (t : TableState) → IsAt states s t → row_of entries t ≡ row_for g s (0 + choices_of g (take t.index states))
  row_is s t at = ap (λ rows. row_in entries.width (slice_get rows t.index)) are.rows ∙ ap (row_in entries.width) (row_at g 0 states t.index s at)

  place_is : (s : S) (t : TableState) (c : ℕ) → IsAt states s t → (row_of entries t).from + c ≡ choices_of g (take t.index states) + c
  place_is s t c at = (let from : (row_of entries t).from ≡ 0 + choices_of g (take t.index states) = ap (λ (row : StateRow). row.from) (row_is s t at) in omega arith)

  cost_is : (s : S) (t : TableState) (c : ℕ) → IsAt states s t → c < g.choices s → g.cost s c ≡ (table_graph entries).cost t c
  cost_is s t c at below =
      let there = each_at g.cost g states t.index s c at below in
      let here : slice_get entries.costs ((row_of entries t).from + c) ≡ Some (g.cost s c) = ap (λ costs. slice_get costs ((row_of entries t).from + c)) are.costs ∙ (ap (slice_get (each_choice g g.cost states)) (place_is s t c at) ∙ there) in
      sym (get_or_from_slice_get entries.costs ((row_of entries t).from + c) (g.cost s c) (replicate entries.width 0) here)

  next_is : (s : S) (t : TableState) (c : ℕ) → IsAt states s t → c < g.choices s → IsAt states (g.next s c) ((table_graph entries).next t c)
  next_is s t c at below =
      let place : ℕ = (row_of entries t).from + c in
      let all = each_choice g g.next states in
      let there : slice_get all place ≡ Some (g.next s c) = ap (slice_get all) (place_is s t c at) ∙ each_at g.next g states t.index s c at below in
      zip_at (IsAt states) all entries.nexts place (g.next s c) t are.nexts there

  entries_inside : length entries.nexts < 2 ^ 64 → AreInside entries
  entries_inside fits =
      let long : choices_of g states ≡ length entries.nexts = sym (length_each g.next g states) ∙ zip_length (IsAt states) (each_choice g g.next states) entries.nexts are.nexts in
      record {
        rows = subst (λ rows. All (λ (row : StateRow). row.from + row.choices ≤ length entries.nexts) rows) (sym are.rows)
            (All-weaker (λ (row : StateRow). row.from + row.choices ≤ 0 + choices_of g states) (λ (row : StateRow). row.from + row.choices ≤ length entries.nexts) (λ row h. omega arith) (rows_from g 0 states) (rows_inside g 0 states));
        costs = ap length are.costs ∙ (length_each g.cost g states ∙ long);
        fits = fits;
      }

  entries_alike : AllPairs (λ s t. s ≢ t) states → slice_get states 0 ≡ Some g.start → AreAlike g (table_graph entries) (IsAt states)
  entries_alike once first = record {
    width = sym are.width;
    last = sym are.last;
    step_limit = sym are.step_limit;
    start = first;
    first = sym are.first;
    choices = λ s t at. sym (ap (λ (row : StateRow). row.choices) (row_is s t at));
    next = λ s t c at below. next_is s t c at below;
    cost = λ s t c at below. cost_is s t c at below;
    finish = λ s t at. sym (ap (λ (row : StateRow). row.finish) (row_is s t at));
    goal = λ s t at. sym (ap (λ (row : StateRow). row.goal) (row_is s t at));
    tick = λ s t at. sym (ap (λ (row : StateRow). row.tick) (row_is s t at));
    one_here = λ s u t at here. same_Some s u (sym at ∙ here);
    one_there = λ s t u at there. elim (cases_order t.index u.index) [
      | inl e ↦ same_index t u e
      | inr (inl below) ↦ absurd (pair_at (λ x y. x ≢ y) states once t.index u.index s s below at there refl)
      | inr (inr above) ↦ absurd (pair_at (λ x y. x ≢ y) states once u.index t.index s s above there at refl)
    ];
  }

module _ {S : Type 0} (eq : S → S → Bool) (g : Graph S) (laws : IsStepGraph g) (eq_laws : IsEquivalence eq) (same : (s t : S) → eq s t ≡ true → s ≡ t)
    (entries : Entries) (are : AreEntriesOf g (visited eq g g.last) entries) where
  starts : slice_get (visited eq g g.last) 0 ≡ Some g.start
  starts = (let b = visited_up_to eq g 0 g.last (omega arith) in ap (λ states. slice_get states 0) b.is)

  pub is_table : IsTableOf g (visited eq g g.last) entries
  is_table = record {
    each_once = are_reached eq g laws same eq_laws;
    alike = entries_alike g (visited eq g g.last) entries are (are_reached eq g laws same eq_laws).once starts;
  }

  pub is_inside : length entries.nexts < 2 ^ 64 → AreInside entries
  is_inside fits = entries_inside g (visited eq g g.last) entries are fits

  pub is_lawful : IsStepGraph (table_graph entries)
  is_lawful = laws_alike g (table_graph entries) (IsAt (visited eq g g.last)) is_table.alike laws
