-- The states of the order of visit after one more tick.
use Rattle.std.proofs.Common.{◌≡◌, ℕ, suc, ◌<◌, ◌≤◌, ◌+◌, Bool, List, [], ◌∷◌, ◌++◌, length, take, filter, refl, sym, ap, ◌∙◌, subst, arith}
use Rattle.std.specs.Prelude.{All, nat_eq}
use Rattle.indexmap.specs.IndexSet.{insert_all}
use Rattle.rulebook_order.specs.Graph.{Graph, IsStateOf}
use Rattle.graph_table.specs.Found.{StepsWithin}
use Rattle.graph_table.specs.Visits.{arriving, visited, choices_of, is_at_tick}
use Rattle.graph_table.specs.Waiting.{items_at, IsVisitedTo}
use Rattle.graph_table.specs.declared.visit.Visit.{Visit}
use Rattle.graph_table.proofs.Inserted.{BeginsWith, begins_inserted, longer_begun}
use Rattle.graph_table.proofs.VisitLaws.{visited_reached, visited_up_to}
use Rattle.graph_table.proofs.Visited.{choices_within}

take_begun_with : {X : Type 0} (xs ys : List X) → BeginsWith ys xs → take (length xs) ys ≡ xs
take_begun_with xs ys b = ap (take (length xs)) b.is ∙ seam xs b.rest
  where
    seam : {X : Type 0} (xs rest : List X) → take (length xs) (xs ++ rest) ≡ xs
    seam [] rest = refl
    seam (x ∷ xs) rest = ap (λ l. x ∷ l) (seam xs rest)

module _ {S : Type 0} (eq : S → S → Bool) (g : Graph S) where
  -- what arrives at the next tick, where the states to a tick are visited
  module _ (past : ℕ) (states : List S) (visit : Visit S) (to : IsVisitedTo eq g past states visit) (arrived new : List S) (taken : arrived ≡ items_at nat_eq visit.waiting (past + 1)) (is : new ≡ insert_all eq states arrived) where
    arrived_is : arrived ≡ arriving g (visited eq g past) (suc past)
    arrived_is =
        let next : past + 1 ≡ suc past = omega arith in
        taken ∙ (to.waiting (past + 1) (omega arith) ∙ (ap (λ n. filter (is_at_tick g n) visit.nexts) next ∙ (ap (filter (is_at_tick g (suc past))) to.kept.nexts ∙ ap (λ all. arriving g all (suc past)) to.states_are)))

    pub new_is : new ≡ visited eq g (past + 1)
    new_is =
        let next : suc past ≡ past + 1 = omega arith in
        is ∙ (ap (λ all. insert_all eq all arrived) to.states_are ∙ (ap (insert_all eq (visited eq g past)) arrived_is ∙ ap (visited eq g) next))

    pub new_reached : All (IsStateOf g) new
    new_reached = subst (λ all. All (IsStateOf g) all) (sym new_is) (visited_reached eq g (past + 1))

    new_begins : BeginsWith new states
    new_begins = subst (λ all. BeginsWith all states) (sym is) (begins_inserted eq states arrived)

    pub new_longer : length states ≤ length new
    new_longer = longer_begun eq states new new_begins

    pub old_is : take (length states) new ≡ states
    old_is = take_begun_with states new new_begins

  -- the visited states are the first of all
  pub steps_within : (limit tick old new : ℕ) (states : List S) → tick ≤ g.last → states ≡ visited eq g tick → length states ≤ limit → new ≤ old + choices_of g states → StepsWithin eq g limit old new
  steps_within limit tick old new states in_time is within steps =
      let begins : BeginsWith (visited eq g g.last) states = subst (λ all. BeginsWith (visited eq g g.last) all) (sym is) (visited_up_to eq g tick g.last in_time) in
      let more = choices_within g limit states (visited eq g g.last) begins within in
      omega arith

  pub too_many_visited : (limit tick : ℕ) → tick ≤ g.last → limit < length (visited eq g tick) → limit < length (visited eq g g.last)
  too_many_visited limit tick in_time many = (let longer = longer_begun eq (visited eq g tick) (visited eq g g.last) (visited_up_to eq g tick g.last in_time) in omega arith)
