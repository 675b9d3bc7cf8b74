-- Tags before a place lie before each later one.
use Rattle.std.proofs.Common.{ℕ, ◌+◌, ◌≤◌, List, [], ◌∷◌, ◌++◌, ◌<◌, length, length-append, get_or, arith}
use Rattle.std.proofs.lemmas.List.Elements.{All-weaker, All-push, All-nil, All-get_or}
use Rattle.element_tree.specs.declared.node.Node.{Node}
use Rattle.element_tree.specs.Within.{AreWithin}
use Rattle.element_tree.specs.declared.limits.TheConstants.{MAX_ELEMENTS}

abbrev before : ℕ → Node → Type 0
before at n = n.place + n.len ≤ at

later : (at more : ℕ) (n : Node) → before at n → before (at + more) n
later at more n h = omega arith

pub within_nil : (at : ℕ) → AreWithin at []
within_nil at = record { each = All-nil (before at); few = omega arith }

pub within_later : (at more : ℕ) (nodes : List Node) → AreWithin at nodes → AreWithin (at + more) nodes
within_later at more nodes h = record { each = All-weaker (before at) (before (at + more)) (later at more) nodes h.each; few = h.few }

pub within_push : (at more : ℕ) (nodes : List Node) (node : Node) → AreWithin at nodes → node.place + node.len ≤ at + more → length nodes < MAX_ELEMENTS → AreWithin (at + more) (nodes ++ node ∷ [])
within_push at more nodes node h k lt = record { each = All-push (before (at + more)) nodes node (within_later at more nodes h).each k; few = omega (arith, length-append nodes (node ∷ [])) }

-- an element's tag, in the source
pub node_within : (at : ℕ) (nodes : List Node) (i : ℕ) (d : Node) → AreWithin at nodes → i < length nodes → (get_or nodes i d).place + (get_or nodes i d).len ≤ at
node_within at nodes i d h lt = All-get_or (before at) nodes i d lt h.each
