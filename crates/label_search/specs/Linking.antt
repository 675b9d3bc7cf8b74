-- How labels are found that are no worse than what a choice or a goal has.
use Rattle.std.specs.Prelude.{◌≡◌, ℕ, ◌<◌, Bool, List, Some, slice_get, All, take, map, IsTrue}
use Rattle.rulebook_order.specs.Certified.{goals_in}
use Rattle.rulebook_order.specs.Graph.{Graph, finished}
use Rattle.label_search.specs.declared.arrival.Arrival.{Arrival}
use Rattle.label_search.specs.declared.candidate.Candidate.{Candidate}
use Rattle.label_search.specs.declared.label.Label.{Label}
use Rattle.label_search.specs.Candidates.{IsCovered}
use Rattle.label_search.specs.Search.{pair_of}
use Rattle.label_search.specs.Settling.{IsArrival, HasNumber}

-- candidates s are the arrivals at the state s, each of them
pub record AreByState {S : Type 0} (arrivals : List (Arrival S))
    (candidates : S → List Candidate) : Type 0 where
  pub from : (s : S) → All (IsArrival arrivals s) (candidates s)
  pub all : (k : ℕ) (x : Arrival S) → slice_get arrivals k ≡ Some x
      → HasNumber (candidates x.state) k

-- the label with the number comes from the same label by the same choice as the arrival
pub record IsOwnLabel {S : Type 0} (labels : List (Arrival S)) (number : ℕ)
    (arrival : Arrival S) : Type 0 where
  pub label : Arrival S
  pub label_is : slice_get labels number ≡ Some label
  pub later : 0 < number
  pub parent_is : label.parent ≡ arrival.parent
  pub choice_is : label.choice ≡ arrival.choice

-- such a label is the arrival
abbrev pub IsTold : {S : Type 0} → List (Arrival S) → Arrival S → Type 0
IsTold labels arrival =
    (number : ℕ) (own : IsOwnLabel labels number arrival) → own.label ≡ arrival

-- number j of the list is that of a candidate that is no worse than the vector
pub record IsCoveredBy (no_worse : List ℕ → List ℕ → Bool) (candidates : List Candidate)
    (numbers : List ℕ) (j : ℕ) (vector : List ℕ) : Type 0 where
  pub cover : IsCovered no_worse candidates vector
  pub number_is : slice_get numbers j ≡ Some cover.by.number

-- the label without its links
abbrev pub arrival_of : {S : Type 0} → Label S → Arrival S
arrival_of label =
    record {
      state = label.state;
      vector = label.vector;
      parent = label.parent;
      choice = label.choice;
    }

-- the candidate is the finished vector of the label with its number, which is at a goal
pub record IsFinalOf {S : Type 0} (g : Graph S) (arrivals : List (Arrival S))
    (candidate : Candidate) : Type 0 where
  pub arrival : Arrival S
  pub arrival_is : slice_get arrivals candidate.number ≡ Some arrival
  pub at_goal : IsTrue (g.goal arrival.state)
  pub vector_is : candidate.vector ≡ finished g arrival.state arrival.vector

-- where the arrival is at a goal, a candidate is no worse than its finished vector
abbrev pub IsAnswered : {S : Type 0} → Graph S → (List ℕ → List ℕ → Bool) → List Candidate
    → Arrival S → Type 0
IsAnswered g no_worse candidates x =
    IsTrue (g.goal x.state) → IsCovered no_worse candidates (finished g x.state x.vector)

-- where arrival k is at a goal, the link of its place among those at goals is to such a candidate
abbrev pub IsGoalLinked : {S : Type 0} → Graph S → (List ℕ → List ℕ → Bool) → List (Arrival S)
    → List Candidate → List ℕ → ℕ → Type 0
IsGoalLinked {S} g no_worse arrivals candidates links k =
    (x : Arrival S) → slice_get arrivals k ≡ Some x → IsTrue (g.goal x.state)
    → IsCoveredBy no_worse candidates links (goals_in g (take k (map pair_of arrivals)))
    (finished g x.state x.vector)
