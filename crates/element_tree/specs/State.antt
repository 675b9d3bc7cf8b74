-- What was read so far. This project's own.
use Rattle.std.specs.Prelude.{ℕ, List}
use Rattle.element_tree.specs.declared.node.Node.{Node}

-- the place of the next byte, the elements in document order, and the names of those that are open,
-- the innermost first
pub record State : Type 0 where
  pub at : ℕ
  pub nodes : List Node
  pub unended : List (List ℕ)
