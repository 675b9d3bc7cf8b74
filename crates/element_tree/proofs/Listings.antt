-- The elements of a content are told by its tokens.
use Rattle.std.proofs.Common.{◌≡◌, ℕ, zero, suc, ◌+◌, Bool, cond, List, [], ◌∷◌, ◌++◌, length, Option, Some, None, ap, sym, ◌∙◌, append_assoc, arith}
use Rattle.std.proofs.lemmas.List.{append-nil}
use Rattle.element_tree.specs.declared.node.Node.{Node}
use Rattle.element_tree.specs.declared.token.Kind.{Kind}
use Rattle.element_tree.specs.declared.token.Kind.TheVariants.{Text, Aside, End, Start}
use Rattle.element_tree.specs.Tags.{start_tag}
use Rattle.element_tree.specs.Contents.{Content, nothing, text, aside, empty, element, tokens, IsProper, size, nodes}

abbrev Token : Type 0
Token = Kind × List ℕ

abbrev outside : ℕ → ℕ
outside zero = zero
outside (suc depth) = depth

abbrev inside_of : Option (List ℕ × Bool) → ℕ → ℕ
inside_of None depth = depth
inside_of (Some tag) depth = cond tag.1 depth (suc depth)

-- in how many elements lies what follows such a token
abbrev depth_after : Kind → Option (List ℕ × Bool) → ℕ → ℕ
depth_after Text tag depth = depth
depth_after Aside tag depth = depth
depth_after End tag depth = outside depth
depth_after Start tag depth = inside_of tag depth

abbrev with_node : Kind → Node → List Node → List Node
with_node Text n ns = ns
with_node Aside n ns = ns
with_node End n ns = ns
with_node Start n ns = n ∷ ns

-- the elements whose start tags are among these tokens
abbrev listing : ℕ → ℕ → List Token → List Node
listing at depth [] = []
listing at depth (t ∷ ts) =
    with_node t.0 (record { place = at; len = length t.1; depth = depth }) (listing (at + length t.1) (depth_after t.0 (start_tag t.1) depth) ts)

renumber : (a b depth : ℕ) (ns : List Node) (ts : List Token) → a ≡ b → ns ++ listing a depth ts ≡ ns ++ listing b depth ts
renumber a b depth ns ts e = ap (λ (n : ℕ). ns ++ listing n depth ts) e

listed : (c : Content) → IsProper c → (at depth : ℕ) (more : List Token) → listing at depth (tokens c ++ more) ≡ nodes at depth c ++ listing (at + size c) depth more
listed nothing p at depth more = renumber at (at + 0) depth [] more (omega arith)
listed (text b c) p at depth more =
    listed c p (at + length b) depth more ∙ renumber (at + length b + size c) (at + (length b + size c)) depth (nodes (at + length b) depth c) more (omega arith)
listed (aside b c) p at depth more =
    listed c p (at + length b) depth more ∙ renumber (at + length b + size c) (at + (length b + size c)) depth (nodes (at + length b) depth c) more (omega arith)
listed (empty t c) p at depth more =
    let n : Node = record { place = at; len = length t; depth = depth } in
    let form = p.0 in
    ap (λ (o : Option (List ℕ × Bool)). n ∷ listing (at + length t) (inside_of o depth) (tokens c ++ more)) form.1
    ∙ ap (λ (ns : List Node). n ∷ ns) (listed c p.1 (at + length t) depth more
    ∙ renumber (at + length t + size c) (at + (length t + size c)) depth (nodes (at + length t) depth c) more (omega arith))
listed (element t inside e c) p at depth more =
    let n : Node = record { place = at; len = length t; depth = depth } in
    let form = p.0 in
    let start = at + length t in
    let place = start + size inside + length e in
    let inner = nodes start (suc depth) inside in
    let following = nodes place depth c in
    let rest = (End, e) ∷ (tokens c ++ more) in
    ap (λ (o : Option (List ℕ × Bool)). n ∷ listing start (inside_of o depth) ((tokens inside ++ (End, e) ∷ tokens c) ++ more)) form.1
    ∙ ap (λ (ns : List Node). n ∷ ns) (ap (λ (ts : List Token). listing start (suc depth) ts) (append_assoc (tokens inside) ((End, e) ∷ tokens c) more)
    ∙ listed inside p.1 start (suc depth) rest ∙ ap (λ (ns : List Node). inner ++ ns) (listed c p.2 place depth more)
    ∙ sym (append_assoc inner following (listing (place + size c) depth more))
    ∙ renumber (place + size c) (at + (length t + size inside + length e + size c)) depth (inner ++ following) more (omega arith))

whole : (c : Content) → IsProper c → (at : ℕ) → listing at 0 (tokens c) ≡ nodes at 0 c
whole c p at = ap (λ (ts : List Token). listing at 0 ts) (sym (append-nil (tokens c))) ∙ listed c p at 0 [] ∙ append-nil (nodes at 0 c)

pub same_nodes : (c d : Content) → IsProper c → IsProper d → tokens c ≡ tokens d → (at : ℕ) → nodes at 0 c ≡ nodes at 0 d
same_nodes c d p q e at = sym (whole c p at) ∙ ap (λ (ts : List Token). listing at 0 ts) e ∙ whole d q at
