-- What the clauses of a search say of what it found.
use Rattle.std.specs.Prelude.{ℕ, List, All}
use Rattle.rulebook_order.specs.Answer.{AreUndominated}
use Rattle.rulebook_order.specs.Graph.{Graph}
use Rattle.label_search.specs.declared.label.Found.{Found}
use Rattle.label_search.specs.Found.{pairs_of, HaveParents, HasLinks, AreFinals, AreGoalLinks}

-- the labels are the undominated pairs, with parents and links, and the finals and goal links are
-- right
pub record IsShown {S : Type 0} (g : Graph S) (IsNoWorse : List ℕ → List ℕ → Type 0)
    (found : Found S) : Type 0 where
  pub labels : AreUndominated g IsNoWorse (pairs_of found.labels)
  pub parents : HaveParents g found.labels
  pub links : All (HasLinks g IsNoWorse (pairs_of found.labels)) found.labels
  pub finals : AreFinals g IsNoWorse (pairs_of found.labels) found.finals
  pub goal_links : AreGoalLinks g IsNoWorse (pairs_of found.labels) found.finals found.goal_links
