-- The form of tags (a profile of CommonRoad XML, this project's own).
use Rattle.std.specs.Prelude.{ℕ, Bool, true, false, ◌&&◌, not, List, [], ◌∷◌, length, take, drop}
use Rattle.std.specs.Prelude.{Option, Some, None, is_some, ◌==◌, nat_eq, nat_lt, codes, slice_index}
use Rattle.std.specs.Prelude.{if◌then◌else◌}
use Rattle.std.specs.List.{position_or_len, list_any, starts_with}
use Rattle.std.specs.Str.{bytes_eq}
use Rattle.element_tree.specs.Bytes.{equals_sign, is_start, is_name_end, is_quote, is_space}
use Rattle.element_tree.specs.Bytes.{is_open, skip_space}
use Rattle.element_tree.specs.Pieces.{◌>>?◌, pieces}

-- a name, and the bytes after it
unfoldable pub name_at : List ℕ → Option (List ℕ × List ℕ)
name_at bytes =
    let len = position_or_len is_name_end bytes in
    if is_start (slice_index bytes 0) then Some (take len bytes, drop len bytes) else None

-- the bytes after this one byte
unfoldable pub after_byte : ℕ → List ℕ → Option (List ℕ)
after_byte b bytes =
    if length bytes == 0 then None
    else if slice_index bytes 0 == b then Some (drop 1 bytes)
    else None

-- the bytes up to this quote, none of them `<`, and the bytes after the quote
unfoldable pub value_in : ℕ → List ℕ → Option (List ℕ × List ℕ)
value_in quote bytes =
    let len = position_or_len (λ b. b == quote) bytes in
    if not (nat_lt len (length bytes)) then None
    else if list_any is_open (take len bytes) then None
    else Some (take len bytes, drop 1 (drop len bytes))

-- a quoted value without `<`, and the bytes after it
unfoldable pub value_at : List ℕ → Option (List ℕ × List ℕ)
value_at bytes =
    if is_quote (slice_index bytes 0) then value_in (slice_index bytes 0) (drop 1 bytes) else None

-- an attribute: white space, a name, optional white space, `=`, optional white space and a quoted
-- value; and the bytes after it
unfoldable pub attribute_at : List ℕ → Option ((List ℕ × List ℕ) × List ℕ)
attribute_at bytes =
    if not (is_space (slice_index bytes 0)) then None
    else name_at (skip_space bytes) >>? λ name.
    after_byte equals_sign (skip_space name.1) >>? λ rest.
    value_at (skip_space rest) >>? λ value.
    Some ((name.0, value.0), value.1)

-- the value of the first attribute of this name
unfoldable pub value_of : List ℕ → List (List ℕ × List ℕ) → Option (List ℕ)
value_of name [] = None
value_of name (a ∷ attributes) = if bytes_eq a.0 name then Some a.1 else value_of name attributes

-- no attribute's name stands again
unfoldable pub are_distinct : List (List ℕ × List ℕ) → Bool
are_distinct [] = true
are_distinct (a ∷ attributes) = not (is_some (value_of a.0 attributes)) && are_distinct attributes

-- the end of a start tag, optional white space, an optional `/` and `>`: whether `/` is there
unfoldable pub is_empty_at : List ℕ → Option Bool
is_empty_at bytes =
    if bytes_eq (skip_space bytes) (codes ">") then Some false
    else if bytes_eq (skip_space bytes) (codes "/>") then Some true
    else None

-- a start tag: its name, and whether its element is empty; None where it has not the form
unfoldable pub start_tag : List ℕ → Option (List ℕ × Bool)
start_tag bytes =
    name_at (drop 1 bytes) >>? λ name.
    is_empty_at (pieces attribute_at name.1).1 >>? λ empty.
    if are_distinct (pieces attribute_at name.1).0 then Some (name.0, empty) else None

-- an end tag of this name: `</`, the name, optional white space, `>`
unfoldable pub is_end_tag : List ℕ → List ℕ → Bool
is_end_tag name bytes = starts_with nat_eq bytes (codes "</") && is_end (name_at (drop 2 bytes))
  where
    is_end : Option (List ℕ × List ℕ) → Bool
    is_end None = false
    is_end (Some x) = bytes_eq x.0 name && bytes_eq (skip_space x.1) (codes ">")
