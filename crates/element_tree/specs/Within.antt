-- Tags that lie before a place. This project's own.
use Rattle.std.specs.Prelude.{ℕ, ◌+◌, ◌≤◌, List, length}
use Rattle.std.specs.List.{All}
use Rattle.element_tree.specs.declared.node.Node.{Node}
use Rattle.element_tree.specs.declared.limits.TheConstants.{MAX_ELEMENTS}

-- each element's tag ends at this place or before it, and there are not too many
pub record AreWithin (at : ℕ) (nodes : List Node) : Type 0 where
  pub each : All (λ n. n.place + n.len ≤ at) nodes
  pub few : length nodes ≤ MAX_ELEMENTS
