-- What a document says: its elements, or the first fault (a profile of CommonRoad XML, this
-- project's own).
use Rattle.std.specs.Prelude.{ℕ, ◌+◌, Bool, true, false, ◌&&◌, not, List, [], ◌∷◌, ◌++◌, length}
use Rattle.std.specs.Prelude.{drop, Option, Some, None, Result, Ok, Err, ◌==◌, nat_le, codes}
use Rattle.std.specs.Prelude.{if◌then◌else◌}
use Rattle.std.specs.List.{list_all}
use Rattle.element_tree.specs.declared.node.Node.{Node}
use Rattle.element_tree.specs.declared.fault.MarkupFault.{MarkupFault}
use Rattle.element_tree.specs.declared.fault.MarkupFault.TheVariants.{Malformed, Truncated, TooDeep}
use Rattle.element_tree.specs.declared.fault.MarkupFault.TheVariants.{TooMany, Unsupported}
use Rattle.element_tree.specs.declared.fault.MarkupFault.TheVariants.{NoMemory}
use Rattle.element_tree.specs.declared.token.Kind.{Kind}
use Rattle.element_tree.specs.declared.token.Kind.TheVariants.{Text, Aside, End, Start}
use Rattle.element_tree.specs.Bytes.{is_space, byte_order_mark}
use Rattle.element_tree.specs.Pieces.{pieces}
use Rattle.reading.specs.Reading.{◌>>=◌, read_all}
use Rattle.element_tree.specs.Tags.{start_tag, is_end_tag}
use Rattle.element_tree.specs.Tokens.{begins, cut_token}
use Rattle.element_tree.specs.State.{State}
use Rattle.element_tree.specs.declared.limits.TheConstants.{MAX_ELEMENTS, MAX_DEPTH}

-- the one fault that may come at any time
abbrev pub is_memory : MarkupFault → Bool
is_memory NoMemory = true
is_memory _ = false

-- a read_all of text: outside the root it is white space
unfoldable pub text_step : List ℕ → State → Result State MarkupFault
text_step token s =
    if length s.unended == 0 && not (list_all is_space token) then Err (Malformed s.at) else Ok s

-- an end tag: it has the name of the innermost open element
abbrev pub closed : List ℕ → State → List (List ℕ) → Result State MarkupFault
closed token s [] = Err (Malformed s.at)
closed token s (name ∷ others) =
    if is_end_tag name token then Ok (record s { unended = others }) else Err (Malformed s.at)

unfoldable pub end_step : List ℕ → State → Result State MarkupFault
end_step token s = closed token s s.unended

-- a start tag: its form, one root, the depth, the count
abbrev pub opened : List ℕ → State → Option (List ℕ × Bool) → Result State MarkupFault
opened token s None = Err (Malformed s.at)
opened token s (Some tag) =
    if length s.unended == 0 && not (length s.nodes == 0) then Err (Malformed s.at)
    else if nat_le MAX_DEPTH (length s.unended) then Err (TooDeep s.at)
    else if nat_le MAX_ELEMENTS (length s.nodes) then Err (TooMany s.at)
    else Ok (record s {
      nodes = s.nodes
          ++ (record { place = s.at; len = length token; depth = length s.unended }) ∷ [];
      unended = if tag.1 then s.unended else tag.0 ∷ s.unended;
    })

unfoldable pub start_step : List ℕ → State → Result State MarkupFault
start_step token s = opened token s (start_tag token)

abbrev pub step_of : Kind → List ℕ → State → Result State MarkupFault
step_of Text token s = text_step token s
step_of Aside token s = Ok s
step_of End token s = end_step token s
step_of Start token s = start_step token s

-- one token
abbrev pub step : Kind × List ℕ → State → Result State MarkupFault
step token s = step_of token.0 token.1 s >>= λ t. Ok (record t { at = s.at + length token.1 })

-- why no token can be cut off here
unfoldable pub cut_fault : ℕ → List ℕ → MarkupFault
cut_fault at bytes =
    if begins bytes (codes "<!") && not (begins bytes (codes "<!--"))
    && not (begins (codes "<!--") bytes) then Unsupported at
    else Truncated at

-- the end of the bytes, which are all tokens, and whose root has ended
unfoldable pub finish : List ℕ → State → Result (List Node) MarkupFault
finish rest s =
    if not (length rest == 0) then Err (cut_fault s.at rest)
    else if length s.unended == 0 && not (length s.nodes == 0) then Ok s.nodes
    else Err (Truncated s.at)

-- the tokens of some bytes one after the other, after what was read so far
unfoldable pub read_on : List ℕ → State → Result (List Node) MarkupFault
read_on bytes s =
    read_all step (pieces cut_token bytes).0 s >>= finish (pieces cut_token bytes).1

-- the elements of a document, which may begin with a byte order mark
unfoldable pub markup : List ℕ → Result (List Node) MarkupFault
markup bytes =
    if begins bytes byte_order_mark then
    read_on (drop 3 bytes) (record { at = 3; nodes = []; unended = [] })
    else read_on bytes (record { at = 0; nodes = []; unended = [] })
