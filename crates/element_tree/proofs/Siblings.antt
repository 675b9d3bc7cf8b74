-- Looking for a sibling.
use Rattle.std.proofs.Common.{◌≡◌, ℕ, ◌+◌, ◌<◌, ◌≤◌, List, [], ◌∷◌, length, get_or, drop, refl, add-one, drop-cons, arith}
use Rattle.std.proofs.lemmas.List.{drop_all}
use Rattle.std.proofs.lemmas.Bool.{lt-ltb, le-ltb, eq-eqb, ne_eqb}
use Rattle.element_tree.specs.declared.node.Node.{Node}
use Rattle.element_tree.specs.Trees.{siblings}

next : (nodes : List Node) (i : ℕ) (d : Node) → i < length nodes → drop i nodes ≡ get_or nodes i d ∷ drop (i + 1) nodes
next nodes i d lt = rw add-one (drop-cons nodes i d lt)

pub less_deep : (nodes : List Node) (depth i : ℕ) (d : Node) → i < length nodes → (get_or nodes i d).depth < depth → siblings depth i (drop i nodes) ≡ []
unfolding siblings
less_deep nodes depth i d lt h = rw (next nodes i d lt, lt-ltb (get_or nodes i d).depth depth h) refl

pub as_deep : (nodes : List Node) (depth i : ℕ) (d : Node) → i < length nodes → (get_or nodes i d).depth ≡ depth
    → siblings depth i (drop i nodes) ≡ i ∷ siblings depth (i + 1) (drop (i + 1) nodes)
unfolding siblings
as_deep nodes depth i d lt h =
    rw (next nodes i d lt, le-ltb (get_or nodes i d).depth depth (omega arith), eq-eqb (get_or nodes i d).depth depth h) refl

pub deeper : (nodes : List Node) (depth i : ℕ) (d : Node) → i < length nodes → depth < (get_or nodes i d).depth
    → siblings depth i (drop i nodes) ≡ siblings depth (i + 1) (drop (i + 1) nodes)
unfolding siblings
deeper nodes depth i d lt h =
    rw (next nodes i d lt, le-ltb (get_or nodes i d).depth depth (omega arith), ne_eqb (get_or nodes i d).depth depth (omega arith)) refl

pub none_left : (nodes : List Node) (depth i : ℕ) → length nodes ≤ i → siblings depth i (drop i nodes) ≡ []
unfolding siblings
none_left nodes depth i h = rw (drop_all i nodes h) refl
