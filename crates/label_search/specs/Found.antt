-- What a search gives: labels for the undominated pairs, and what shows that they are all and that
-- the finals are the answer.
use Rattle.std.specs.Prelude.{◌≡◌, ℕ, ◌<◌, ◌≤◌, List, length, Some, slice_get, All, map, Result, Ok}
use Rattle.std.specs.Prelude.{Err}
use Rattle.rulebook_order.specs.Answer.{IsAnswerList}
use Rattle.rulebook_order.specs.Certified.{ComesFrom, IsLinked, IsGoalLabel, goals_in}
use Rattle.rulebook_order.specs.Certified.{finished_vectors, HasGoalLink}
use Rattle.rulebook_order.specs.Graph.{Graph, IsStateOf}
use Rattle.label_search.specs.declared.label.Label.{Label}
use Rattle.label_search.specs.declared.label.SearchFault.{SearchFault}
use Rattle.label_search.specs.declared.label.SearchFault.TheVariants.{TooManyLabels, NoMemory}

-- the state and the running vector of each label
abbrev pub pairs_of : {S : Type 0} → List (Label S) → List (S × List ℕ)
pairs_of labels = map (λ label. (label.state, label.vector)) labels

-- label 0 is the start's, with parent 0 and choice 0
pub record IsStartLabel {S : Type 0} (g : Graph S) (label : Label S) : Type 0 where
  pub state_is : label.state ≡ g.start
  pub vector_is : label.vector ≡ g.first
  pub parent_is : label.parent ≡ 0
  pub choice_is : label.choice ≡ 0

-- label 0 is the start's, and each other one comes from its parent by its choice
pub record HaveParents {S : Type 0} (g : Graph S) (labels : List (Label S)) : Type 0 where
  pub some : 0 < length labels
  pub first : (label : Label S) → slice_get labels 0 ≡ Some label → IsStartLabel g label
  pub later : (k : ℕ) (label : Label S) → 0 < k → slice_get labels k ≡ Some label
      → ComesFrom g (pairs_of labels) k label.parent label.choice

-- the label has a link for each choice, and no further one
pub record HasLinks {S : Type 0} (g : Graph S) (IsNoWorse : List ℕ → List ℕ → Type 0)
    (pairs : List (S × List ℕ)) (label : Label S) : Type 0 where
  pub count : length label.links ≡ g.choices label.state
  pub linked : IsLinked g IsNoWorse pairs label.links label.state label.vector

-- the finals are labels at goals, whose finished vectors are the answer, each once
pub record AreFinals {S : Type 0} (g : Graph S) (IsNoWorse : List ℕ → List ℕ → Type 0)
    (pairs : List (S × List ℕ)) (finals : List ℕ) : Type 0 where
  pub at_goal : All (IsGoalLabel g pairs) finals
  pub answer : IsAnswerList g IsNoWorse (finished_vectors g pairs finals)

-- each label at a goal has a goal link to a final that is no worse, and there is no further one
pub record AreGoalLinks {S : Type 0} (g : Graph S) (IsNoWorse : List ℕ → List ℕ → Type 0)
    (pairs : List (S × List ℕ)) (finals goal_links : List ℕ) : Type 0 where
  pub count : length goal_links ≡ goals_in g pairs
  pub linked : (k : ℕ) → HasGoalLink g IsNoWorse pairs finals goal_links k

-- no more choices than this at any state
abbrev pub HasChoicesUpTo : {S : Type 0} → Graph S → ℕ → Type 0
HasChoicesUpTo {S} g most = (s : S) → IsStateOf g s → g.choices s ≤ most

-- so it is, unless memory could not be had
abbrev pub UnlessNoMemory : {T : Type 0} → Result T SearchFault → Type 0 → Type 0
UnlessNoMemory (Ok x) P = P
UnlessNoMemory (Err TooManyLabels) P = P
UnlessNoMemory (Err NoMemory) P = Unit {0}

-- so it is where the fault is that there are too many labels
abbrev pub IfTooMany : Type 0 → SearchFault → Type 0
IfTooMany P TooManyLabels = P
IfTooMany P NoMemory = Unit {0}
