-- What labels have to meet to show an answer. Label k has pair k of a list: its state and its
-- running vector. (This project's own.)
use Rattle.std.specs.Prelude.{◌≡◌, ℕ, ◌<◌, List, length, Some, slice_get, slice_index_or, Contains}
use Rattle.std.specs.Prelude.{filter, map, take, IsTrue}
use Rattle.rulebook_order.specs.Graph.{Graph, pair_by, finished}
use Rattle.rulebook_order.specs.Sums.{sums}

-- label k comes from an earlier one, by a choice of that one's state
pub record ComesFrom {S : Type 0} (g : Graph S) (pairs : List (S × List ℕ))
    (k parent choice : ℕ) : Type 0 where
  pub state : S
  pub vector : List ℕ
  pub parent_is : slice_get pairs parent ≡ Some (state, vector)
  pub earlier : parent < k
  pub choice_below : choice < g.choices state
  pub leads : slice_get pairs k ≡ Some (pair_by g (state, vector) choice)

-- link c names a label of the state, whose running vector is no worse than the vector
pub record IsLinkedTo {S : Type 0} (IsNoWorse : List ℕ → List ℕ → Type 0)
    (pairs : List (S × List ℕ)) (links : List ℕ) (c : ℕ) (s : S) (v : List ℕ) : Type 0 where
  pub link : ℕ
  pub found : List ℕ
  pub link_is : slice_get links c ≡ Some link
  pub pair_is : slice_get pairs link ≡ Some (s, found)
  pub no_worse_is : IsNoWorse found v

-- each choice has a link to a label of the state that it leads to from s, which is no worse than
-- what it leads to from v
abbrev pub IsLinked : {S : Type 0} → Graph S → (List ℕ → List ℕ → Type 0) → List (S × List ℕ)
    → List ℕ → S → List ℕ → Type 0
IsLinked g IsNoWorse pairs links s v =
    (c : ℕ) → c < g.choices s → IsLinkedTo IsNoWorse pairs links c (g.next s c)
    (sums v (g.cost s c))

-- the number is that of a label at a goal
pub record IsGoalLabel {S : Type 0} (g : Graph S) (pairs : List (S × List ℕ))
    (number : ℕ) : Type 0 where
  pub state : S
  pub vector : List ℕ
  pub pair_is : slice_get pairs number ≡ Some (state, vector)
  pub goal_is : IsTrue (g.goal state)

-- how many labels are at a goal
abbrev pub goals_in : {S : Type 0} → Graph S → List (S × List ℕ) → ℕ
goals_in g pairs = length (filter (λ pair. g.goal pair.0) pairs)

-- the finished vector of a label, by its number
abbrev pub finished_at : {S : Type 0} → Graph S → List (S × List ℕ) → ℕ → List ℕ
finished_at g pairs number =
    finished g (slice_index_or pairs number (g.start, g.first)).0
    (slice_index_or pairs number (g.start, g.first)).1

-- the finished vectors of labels, by their numbers
abbrev pub finished_vectors : {S : Type 0} → Graph S → List (S × List ℕ) → List ℕ → List (List ℕ)
finished_vectors g pairs numbers = map (finished_at g pairs) numbers

-- goal link j names a listed final whose finished vector is no worse than the vector
pub record IsAnsweredAt {S : Type 0} (g : Graph S) (IsNoWorse : List ℕ → List ℕ → Type 0)
    (pairs : List (S × List ℕ)) (finals goal_links : List ℕ) (j : ℕ)
    (vector : List ℕ) : Type 0 where
  pub final : ℕ
  pub link_is : slice_get goal_links j ≡ Some final
  pub listed : Contains finals final
  pub no_worse_is : IsNoWorse (finished_at g pairs final) vector

-- where label k is at a goal, and j labels at goals stand before it, goal link j answers it
abbrev pub HasGoalLink : {S : Type 0} → Graph S → (List ℕ → List ℕ → Type 0) → List (S × List ℕ)
    → List ℕ → List ℕ → ℕ → Type 0
HasGoalLink {S} g IsNoWorse pairs finals goal_links k =
    (s : S) (v : List ℕ) → slice_get pairs k ≡ Some (s, v) → IsTrue (g.goal s)
    → IsAnsweredAt g IsNoWorse pairs finals goal_links (goals_in g (take k pairs))
    (finished g s v)
