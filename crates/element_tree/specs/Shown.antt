-- What the calls on a tree tell of each element, said of the document's content (a profile of
-- CommonRoad XML, this project's own).
use Rattle.std.specs.Prelude.{◌≡◌, ℕ, ◌+◌, Bool, true, false, List, [], ◌∷◌, ◌++◌, length, drop}
use Rattle.std.specs.Prelude.{Option, Some, None, option_map}
use Rattle.element_tree.specs.Pieces.{pieces}
use Rattle.element_tree.specs.Tags.{name_at, attribute_at, is_empty_at, start_tag}
use Rattle.element_tree.specs.Tokens.{cut_token}
use Rattle.element_tree.specs.Document.{Document}
use Rattle.element_tree.specs.Trees.{tag_of, name_of, attributes_of, trim, text_of, children}
use Rattle.element_tree.specs.Trees.{younger}
use Rattle.element_tree.specs.Contents.{Content, nothing, text, aside, empty, element, tokens}
use Rattle.element_tree.specs.Contents.{IsProper, after_mark}

-- how many elements
abbrev pub count : Content → ℕ
count nothing = 0
count (text bytes after) = count after
count (aside bytes after) = count after
count (empty tag after) = 1 + count after
count (element tag inside ending after) = 1 + (count inside + count after)

-- the numbers of the elements that lie in no other of these, where the first element has number k
abbrev pub outer : ℕ → Content → List ℕ
outer k nothing = []
outer k (text bytes after) = outer k after
outer k (aside bytes after) = outer k after
outer k (empty tag after) = k ∷ outer (k + 1) after
outer k (element tag inside ending after) = k ∷ outer (k + 1 + count inside) after

-- the text, where nothing but text stands there
abbrev pub text_alone : Content → Option (List ℕ)
text_alone nothing = Some []
text_alone (text bytes after) = option_map (λ more. bytes ++ more) (text_alone after)
text_alone (aside bytes after) = None
text_alone (empty tag after) = None
text_alone (element tag inside ending after) = None

-- after its `<` a start tag has this name, then these attributes one after the other, and then its
-- end, with `/` where the element is empty
abbrev pub HasParts : List ℕ → List ℕ → List (List ℕ × List ℕ) → Bool → Type 0
HasParts tag name attributes is_empty =
    (rest ending : List ℕ) × (name_at (drop 1 tag) ≡ Some (name, rest))
    × (pieces attribute_at rest ≡ (attributes, ending)) × (is_empty_at ending ≡ Some is_empty)

-- What the calls tell of element k: its tag, with the name and the attributes there; its text,
-- without white space at both ends, and the elements directly in it, where this content stands in
-- it; and the elements after it in the element that holds it, where this content stands after it.
pub record Tells (document : Document) (k : ℕ) (tag : List ℕ) (is_empty : Bool)
    (inside after : Content) : Type 0 where
  pub tag_is : tag_of document k ≡ tag
  pub name_is : start_tag tag ≡ Some (name_of document k, is_empty)
  pub attributes_are : HasParts tag (name_of document k) (attributes_of document k) is_empty
  pub text_is : text_of document k ≡ option_map trim (text_alone inside)
  pub children_are : children document k ≡ outer (k + 1) inside
  pub younger_are : younger document k ≡ outer (k + 1 + count inside) after

-- the elements of a document from number k on are those of this content
abbrev pub IsShown : Document → ℕ → Content → Type 0
IsShown document k nothing = Unit {0}
IsShown document k (text bytes after) = IsShown document k after
IsShown document k (aside bytes after) = IsShown document k after
IsShown document k (empty tag after) =
    Tells document k tag true nothing after × IsShown document (k + 1) after
IsShown document k (element tag inside ending after) =
    Tells document k tag false inside after × IsShown document (k + 1) inside
    × IsShown document (k + 1 + count inside) after

-- whatever content the document is the tokens of, the calls show its elements, and there are no
-- others
unfoldable pub ShowsContent : Document → Type 0
ShowsContent document =
    (content : Content) → IsProper content
    → pieces cut_token (after_mark document.source) ≡ (tokens content, [])
    → (length document.nodes ≡ count content) × IsShown document 0 content
