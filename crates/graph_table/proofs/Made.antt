-- What is kept of all states visited makes the entries of the graph.
use Rattle.std.proofs.Common.{◌≡◌, ℕ, ◌<◌, Bool, true, List, length, sym, ap, ◌∙◌, subst}
use Rattle.std.specs.Cmp.{IsEquivalence}
use Rattle.std.specs.List.{AllZip}
use Rattle.std.specs.Prelude.{All, Contains}
use Rattle.std.proofs.lemmas.List.Elements.{All-weaker}
use Rattle.rulebook_order.specs.Graph.{Graph, IsStateOf}
use Rattle.rulebook_order.specs.StepGraph.{IsStepGraph}
use Rattle.graph_table.specs.Tables.{IsAt, HasMoreStates}
use Rattle.graph_table.specs.Visits.{AreEntriesOf, each_choice, visited}
use Rattle.graph_table.specs.Waiting.{IsVisitedTo}
use Rattle.graph_table.specs.declared.entries.Entries.{Entries}
use Rattle.graph_table.specs.declared.visit.Visit.{Visit}
use Rattle.graph_table.proofs.VisitLaws.{nexts_reached, visited_reached, visited_all, visited_once}

module _ {S : Type 0} (eq : S → S → Bool) (g : Graph S) where
  module _ (laws : IsStepGraph g) (eq_laws : IsEquivalence eq) (same : (s t : S) → eq s t ≡ true → s ≡ t) where
    -- each state led to is there
    pub nexts_there : (states : List S) (visit : Visit S) → IsVisitedTo eq g g.last states visit → All (Contains states) visit.nexts
    nexts_there states visit to =
        let all = visited eq g g.last in
        let there = All-weaker (IsStateOf g) (Contains all) (visited_all eq g laws same) (each_choice g g.next all) (nexts_reached eq g all (visited_reached eq g g.last)) in
        let nexts : visit.nexts ≡ each_choice g g.next all = to.kept.nexts ∙ ap (each_choice g g.next) to.states_are in
        subst (λ xs. All (Contains states) xs) (sym nexts) (subst (λ (here : List S). All (Contains here) (each_choice g g.next all)) (sym to.states_are) there)

    pub has_more : (limit : ℕ) → limit < length (visited eq g g.last) → HasMoreStates g limit
    has_more limit more = record { states = visited eq g g.last; reached = visited_reached eq g g.last; once = visited_once eq g laws same eq_laws g.last; more = more }

  pub entries_of : (states : List S) (visit : Visit S) → IsVisitedTo eq g g.last states visit → (entries : Entries) → entries.width ≡ g.width → entries.last ≡ g.last → entries.step_limit ≡ g.step_limit → entries.first ≡ g.first
      → entries.rows ≡ visit.rows → AllZip (IsAt states) visit.nexts entries.nexts → entries.costs ≡ visit.costs → AreEntriesOf g (visited eq g g.last) entries
  entries_of states visit to entries width last step_limit first rows nexts costs =
      subst (λ all. AreEntriesOf g all entries) to.states_are (record {
        width = width;
        last = last;
        step_limit = step_limit;
        first = first;
        rows = rows ∙ to.kept.rows;
        nexts = subst (λ xs. AllZip (IsAt states) xs entries.nexts) to.kept.nexts nexts;
        costs = costs ∙ to.kept.costs;
      })
