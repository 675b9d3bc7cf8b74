-- What the elements of a document hold (a profile of CommonRoad XML, this project's own).
use Rattle.std.specs.Prelude.{ℕ, ◌+◌, List, [], ◌∷◌, take, drop, reverse, Option, Some, None, ◌==◌}
use Rattle.std.specs.Prelude.{nat_eq, nat_lt, codes, slice_index_or, if◌then◌else◌}
use Rattle.std.specs.List.{position_or_len, ends_with}
use Rattle.element_tree.specs.declared.node.Node.{Node}
use Rattle.element_tree.specs.Bytes.{is_name_end, is_open, skip_space}
use Rattle.element_tree.specs.Pieces.{pieces}
use Rattle.element_tree.specs.Tags.{attribute_at}
use Rattle.element_tree.specs.Tokens.{begins}
use Rattle.element_tree.specs.Document.{Document}

abbrev pub no_node : Node
no_node = record { place = 0; len = 0; depth = 0 }

-- element k
abbrev pub node_of : Document → ℕ → Node
node_of document k = slice_index_or document.nodes k no_node

-- the start tag of element k, and what follows it
abbrev pub tag_of : Document → ℕ → List ℕ
tag_of document k = take (node_of document k).len (drop (node_of document k).place document.source)

abbrev pub after_tag : Document → ℕ → List ℕ
after_tag document k =
    drop (node_of document k).len (drop (node_of document k).place document.source)

abbrev pub name_of : Document → ℕ → List ℕ
name_of document k =
    take (position_or_len is_name_end (drop 1 (tag_of document k))) (drop 1 (tag_of document k))

abbrev pub after_name : Document → ℕ → List ℕ
after_name document k =
    drop (position_or_len is_name_end (drop 1 (tag_of document k))) (drop 1 (tag_of document k))

-- the attributes of element k, each a name and a value
abbrev pub attributes_of : Document → ℕ → List (List ℕ × List ℕ)
attributes_of document k = (pieces attribute_at (after_name document k)).0

-- without white space at both ends
abbrev pub trim_end : List ℕ → List ℕ
trim_end bytes = reverse (skip_space (reverse bytes))

abbrev pub trim : List ℕ → List ℕ
trim bytes = trim_end (skip_space bytes)

-- the text before an end tag, if nothing else stands before it
unfoldable pub text_before_end : List ℕ → Option (List ℕ)
text_before_end bytes =
    let len = position_or_len is_open bytes in
    if begins (drop len bytes) (codes "</") then Some (trim (take len bytes)) else None

-- the text of element k, if it holds no element, comment or instruction
unfoldable pub text_of : Document → ℕ → Option (List ℕ)
text_of document k =
    if ends_with nat_eq (tag_of document k) (codes "/>") then Some []
    else text_before_end (after_tag document k)

-- of the elements from i on, those at this depth, up to one that is less deep
unfoldable pub siblings : ℕ → ℕ → List Node → List ℕ
siblings depth i [] = []
siblings depth i (n ∷ nodes) =
    if nat_lt n.depth depth then []
    else if n.depth == depth then i ∷ siblings depth (i + 1) nodes
    else siblings depth (i + 1) nodes

-- the elements in element k, in order
unfoldable pub children : Document → ℕ → List ℕ
children document k =
    siblings ((node_of document k).depth + 1) (k + 1) (drop (k + 1) document.nodes)

-- the elements after element k in the element that holds it
unfoldable pub younger : Document → ℕ → List ℕ
younger document k = siblings (node_of document k).depth (k + 1) (drop (k + 1) document.nodes)

-- an element that was found, and those after it in the element that holds it
abbrev pub from : Document → Option ℕ → List ℕ
from document None = []
from document (Some k) = k ∷ younger document k
