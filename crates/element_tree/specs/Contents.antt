-- What stands in an element, as a tree, and the tokens that spell it (a profile of CommonRoad XML,
-- this project's own).
use Rattle.std.specs.Prelude.{◌≡◌, ℕ, suc, ◌+◌, ◌<◌, ◌≤◌, length, true, false, List, [], ◌∷◌, ◌++◌}
use Rattle.std.specs.Prelude.{drop, Some, if◌then◌else◌}
use Rattle.std.specs.List.{All, list_all}
use Rattle.element_tree.specs.declared.node.Node.{Node}
use Rattle.element_tree.specs.declared.token.Kind.{Kind}
use Rattle.element_tree.specs.declared.token.Kind.TheVariants.{Text, Aside, End, Start}
use Rattle.element_tree.specs.Tags.{start_tag, is_end_tag}
use Rattle.element_tree.specs.Tokens.{begins, cut_token}
use Rattle.element_tree.specs.Bytes.{is_space, byte_order_mark}
use Rattle.element_tree.specs.Pieces.{pieces}
use Rattle.element_tree.specs.declared.limits.TheConstants.{MAX_ELEMENTS, MAX_DEPTH}

-- Nothing, or a piece and what follows it: a text run, a comment or instruction, an empty element,
-- or an element with its start tag, what stands in it, and its end tag.
pub data Content : Type 0 where
  nothing : Content
  text : List ℕ → Content → Content
  aside : List ℕ → Content → Content
  empty : List ℕ → Content → Content
  element : List ℕ → Content → List ℕ → Content → Content

-- the tokens, in order
abbrev pub tokens : Content → List (Kind × List ℕ)
tokens nothing = []
tokens (text bytes after) = (Text, bytes) ∷ tokens after
tokens (aside bytes after) = (Aside, bytes) ∷ tokens after
tokens (empty tag after) = (Start, tag) ∷ tokens after
tokens (element tag inside ending after) =
    (Start, tag) ∷ (tokens inside ++ (End, ending) ∷ tokens after)

-- each tag has its form, and each end tag the name of its start tag
abbrev pub IsProper : Content → Type 0
IsProper nothing = Unit {0}
IsProper (text bytes after) = IsProper after
IsProper (aside bytes after) = IsProper after
IsProper (empty tag after) =
    ((name : List ℕ) × (start_tag tag ≡ Some (name, true))) × IsProper after
IsProper (element tag inside ending after) =
    ((name : List ℕ) × (start_tag tag ≡ Some (name, false)) × (is_end_tag name ending ≡ true))
    × IsProper inside × IsProper after

-- how many bytes it has
abbrev pub size : Content → ℕ
size nothing = 0
size (text bytes after) = length bytes + size after
size (aside bytes after) = length bytes + size after
size (empty tag after) = length tag + size after
size (element tag inside ending after) = length tag + size inside + length ending + size after

-- its elements in document order, where it begins at this place and lies in this many elements
abbrev pub nodes : ℕ → ℕ → Content → List Node
nodes at depth nothing = []
nodes at depth (text bytes after) = nodes (at + length bytes) depth after
nodes at depth (aside bytes after) = nodes (at + length bytes) depth after
nodes at depth (empty tag after) =
    (record { place = at; len = length tag; depth = depth }) ∷ nodes (at + length tag) depth after
nodes at depth (element tag inside ending after) =
    (record { place = at; len = length tag; depth = depth })
    ∷ (nodes (at + length tag) (suc depth) inside
    ++ nodes (at + length tag + size inside + length ending) depth after)

-- bytes of tokens, joined
abbrev pub spelling : List (Kind × List ℕ) → List ℕ
spelling [] = []
spelling (token ∷ more) = token.1 ++ spelling more

-- the bytes without a byte order mark at their front
abbrev pub after_mark : List ℕ → List ℕ
after_mark bytes = if begins bytes byte_order_mark then drop 3 bytes else bytes

-- the place after the byte order mark
abbrev pub mark_len : List ℕ → ℕ
mark_len bytes = if begins bytes byte_order_mark then 3 else 0

-- text outside its elements is white space
abbrev pub IsBlank : Content → Type 0
IsBlank nothing = Unit {0}
IsBlank (text bytes after) = (list_all is_space bytes ≡ true) × IsBlank after
IsBlank (aside bytes after) = IsBlank after
IsBlank (empty tag after) = IsBlank after
IsBlank (element tag inside ending after) = IsBlank after

-- how many elements lie in no other
abbrev pub roots : Content → ℕ
roots nothing = 0
roots (text bytes after) = roots after
roots (aside bytes after) = roots after
roots (empty tag after) = 1 + roots after
roots (element tag inside ending after) = 1 + roots after

-- Bytes from a place on are the tokens of some content, joined, and nothing else, and these are its
-- elements: one root, outside it no text but white space, no element too deep, and not too many.
pub record IsDocument (at : ℕ) (bytes : List ℕ) (elements : List Node) : Type 0 where
  pub content : Content
  pub proper : IsProper content
  pub cut : pieces cut_token bytes ≡ (tokens content, [])
  pub whole : spelling (tokens content) ≡ bytes
  pub shown : elements ≡ nodes at 0 content
  pub blank : IsBlank content
  pub root : roots content ≡ 1
  pub shallow : All (λ n. n.depth < MAX_DEPTH) elements
  pub few : length elements ≤ MAX_ELEMENTS

-- bytes that are no document, whatever its elements
abbrev pub IsNoDocument : ℕ → List ℕ → Type 0
IsNoDocument at bytes = (elements : List Node) → IsDocument at bytes elements → ⊥
