-- The elements at one depth in the list of all are the outer ones of the content.
use Rattle.std.proofs.Common.{◌≡◌, ℕ, suc, ◌+◌, ◌<◌, List, [], ◌∷◌, ◌++◌, length, refl, ap, ◌∙◌, append_assoc, length-append, arith}
use Rattle.std.proofs.lemmas.List.{append-nil}
use Rattle.std.proofs.lemmas.Bool.{lt-ltb, le-ltb, eq-eqb, ne_eqb}
use Rattle.element_tree.specs.declared.node.Node.{Node}
use Rattle.element_tree.specs.Contents.{Content, nothing, text, aside, empty, element, size, nodes}
use Rattle.element_tree.specs.Shown.{count, outer}
use Rattle.element_tree.specs.Trees.{siblings}

at_deeper : (depth i : ℕ) (n : Node) (ns : List Node) → depth < n.depth → siblings depth i (n ∷ ns) ≡ siblings depth (i + 1) ns
unfolding siblings
at_deeper depth i n ns h = rw (le-ltb n.depth depth (omega arith), ne_eqb n.depth depth (omega arith)) refl

at_same : (depth i : ℕ) (n : Node) (ns : List Node) → n.depth ≡ depth → siblings depth i (n ∷ ns) ≡ i ∷ siblings depth (i + 1) ns
unfolding siblings
at_same depth i n ns h = rw (le-ltb n.depth depth (omega arith), eq-eqb n.depth depth h) refl

at_shallower : (depth i : ℕ) (n : Node) (ns : List Node) → n.depth < depth → siblings depth i (n ∷ ns) ≡ []
unfolding siblings
at_shallower depth i n ns h = rw (lt-ltb n.depth depth h) refl

from_number : (depth i j : ℕ) (ns : List Node) → i ≡ j → siblings depth i ns ≡ siblings depth j ns
from_number depth i j ns e = ap (λ (k : ℕ). siblings depth k ns) e

pub deeper : (c : Content) (depth at below i : ℕ) (rest : List Node) → depth < below → siblings depth i (nodes at below c ++ rest) ≡ siblings depth (i + count c) rest
deeper nothing depth at below i rest h = from_number depth i (i + 0) rest (omega arith)
deeper (text b c) depth at below i rest h = deeper c depth (at + length b) below i rest h
deeper (aside b c) depth at below i rest h = deeper c depth (at + length b) below i rest h
deeper (empty t c) depth at below i rest h =
    at_deeper depth i (record { place = at; len = length t; depth = below }) (nodes (at + length t) below c ++ rest) h
    ∙ deeper c depth (at + length t) below (i + 1) rest h ∙ from_number depth (i + 1 + count c) (i + (1 + count c)) rest (omega arith)
deeper (element t inside e c) depth at below i rest h =
    let place = at + length t + size inside + length e in
    at_deeper depth i (record { place = at; len = length t; depth = below }) ((nodes (at + length t) (suc below) inside ++ nodes place below c) ++ rest) h
    ∙ ap (λ (x : List Node). siblings depth (i + 1) x) (append_assoc (nodes (at + length t) (suc below) inside) (nodes place below c) rest)
    ∙ deeper inside depth (at + length t) (suc below) (i + 1) (nodes place below c ++ rest) (omega arith)
    ∙ deeper c depth place below (i + 1 + count inside) rest h ∙ from_number depth (i + 1 + count inside + count c) (i + (1 + (count inside + count c))) rest (omega arith)

-- the elements at the depth of the content, and those that follow it
outermost : (c : Content) (depth at i : ℕ) (rest : List Node) → siblings depth i (nodes at depth c ++ rest) ≡ outer i c ++ siblings depth (i + count c) rest
outermost nothing depth at i rest = from_number depth i (i + 0) rest (omega arith)
outermost (text b c) depth at i rest = outermost c depth (at + length b) i rest
outermost (aside b c) depth at i rest = outermost c depth (at + length b) i rest
outermost (empty t c) depth at i rest =
    at_same depth i (record { place = at; len = length t; depth = depth }) (nodes (at + length t) depth c ++ rest) refl
    ∙ ap (λ (x : List ℕ). i ∷ x) (outermost c depth (at + length t) (i + 1) rest
    ∙ ap (λ (x : List ℕ). outer (i + 1) c ++ x) (from_number depth (i + 1 + count c) (i + (1 + count c)) rest (omega arith)))
outermost (element t inside e c) depth at i rest =
    let place = at + length t + size inside + length e in
    at_same depth i (record { place = at; len = length t; depth = depth }) ((nodes (at + length t) (suc depth) inside ++ nodes place depth c) ++ rest) refl
    ∙ ap (λ (x : List ℕ). i ∷ x) (ap (λ (x : List Node). siblings depth (i + 1) x) (append_assoc (nodes (at + length t) (suc depth) inside) (nodes place depth c) rest)
    ∙ deeper inside depth (at + length t) (suc depth) (i + 1) (nodes place depth c ++ rest) (omega arith)
    ∙ outermost c depth place (i + 1 + count inside) rest
    ∙ ap (λ (x : List ℕ). outer (i + 1 + count inside) c ++ x) (from_number depth (i + 1 + count inside + count c) (i + (1 + (count inside + count c))) rest (omega arith)))

-- these elements are none, or the first of them lies in fewer others
abbrev pub AreLess : ℕ → List Node → Type 0
AreLess depth [] = Unit {0}
AreLess depth (n ∷ ns) = n.depth < depth

less_end : (depth i : ℕ) (rest : List Node) → AreLess depth rest → siblings depth i rest ≡ []
unfolding siblings
less_end depth i [] h = refl
less_end depth i (n ∷ ns) h = at_shallower depth i n ns h

-- what follows an element, to what stands in it
pub less_in : (c : Content) (at depth : ℕ) (rest : List Node) → AreLess depth rest → AreLess (suc depth) (nodes at depth c ++ rest)
less_in nothing at depth [] h = tt
less_in nothing at depth (n ∷ ns) h = omega arith
less_in (text b c) at depth rest h = less_in c (at + length b) depth rest h
less_in (aside b c) at depth rest h = less_in c (at + length b) depth rest h
less_in (empty t c) at depth rest h = omega arith
less_in (element t inside e c) at depth rest h = omega arith

pub outer_all : (c : Content) (depth at i : ℕ) (rest : List Node) → AreLess depth rest → siblings depth i (nodes at depth c ++ rest) ≡ outer i c
outer_all c depth at i rest h =
    outermost c depth at i rest ∙ ap (λ (x : List ℕ). outer i c ++ x) (less_end depth (i + count c) rest h) ∙ append-nil (outer i c)

pub nodes_count : (c : Content) (at depth : ℕ) → length (nodes at depth c) ≡ count c
nodes_count nothing at depth = refl
nodes_count (text b c) at depth = nodes_count c (at + length b) depth
nodes_count (aside b c) at depth = nodes_count c (at + length b) depth
nodes_count (empty t c) at depth = let h = nodes_count c (at + length t) depth in omega (arith, h)
nodes_count (element t inside e c) at depth =
    let place = at + length t + size inside + length e in
    let h = nodes_count inside (at + length t) (suc depth) in
    let j = nodes_count c place depth in
    omega (arith, h, j, length-append (nodes (at + length t) (suc depth) inside) (nodes (at + length t + size inside + length e) depth c))
