-- What a tree shows. This project's own.
use Rattle.std.specs.Prelude.{ℕ, List}
use Rattle.element_tree.specs.declared.node.Node.{Node}

-- the document, and its elements in document order
pub record Document : Type 0 where
  pub source : List ℕ
  pub nodes : List Node
