-- Where there is no element, the root has no name.
use Rattle.std.proofs.Common.{◌≡◌, ℕ, false, List, [], ◌∷◌, length, refl, arith}
use Rattle.std.specs.Prelude.{codes}
use Rattle.std.specs.Str.{bytes_eq}
use Rattle.element_tree.specs.Document.{Document}
use Rattle.element_tree.specs.declared.node.Node.{Node}
use Rattle.element_tree.specs.Trees.{name_of}

empty : (source : List ℕ) (nodes : List Node) → length nodes ≡ 0 → bytes_eq (name_of (record { source = source; nodes = nodes }) 0) (codes "commonRoad") ≡ false
empty source [] h = refl
empty source (n ∷ nodes) h = absurd (omega arith)

pub no_root : (document : Document) → length document.nodes ≡ 0 → bytes_eq (name_of document 0) (codes "commonRoad") ≡ false
no_root document h = empty document.source document.nodes h
