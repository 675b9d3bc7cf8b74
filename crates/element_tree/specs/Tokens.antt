-- The tokens of a document (a profile of CommonRoad XML, this project's own).
use Rattle.std.specs.Prelude.{ℕ, ◌+◌, Bool, not, List, length, take, drop, Option, Some, None}
use Rattle.std.specs.Prelude.{option_map, ◌==◌, nat_eq, codes, slice_index, if◌then◌else◌}
use Rattle.std.specs.List.{position_or_len, starts_with}
use Rattle.element_tree.specs.Bytes.{is_open, len_to, len_to_close}
use Rattle.element_tree.specs.declared.token.Kind.{Kind}
use Rattle.element_tree.specs.declared.token.Kind.TheVariants.{Text, Aside, End, Start}

abbrev pub begins : List ℕ → List ℕ → Bool
begins bytes text = starts_with nat_eq bytes text

-- a token that ends with the first such mark after its first n bytes
unfoldable pub ended : Kind → ℕ → List ℕ → List ℕ → Option (Kind × ℕ)
ended kind n mark bytes = option_map (λ len. (kind, n + len)) (len_to mark (drop n bytes))

-- the kind and the length of the first token, if it has its end
unfoldable pub token_at : List ℕ → Option (Kind × ℕ)
token_at bytes =
    if length bytes == 0 then None
    else if not (is_open (slice_index bytes 0)) then Some (Text, position_or_len is_open bytes)
    else if begins bytes (codes "<!--") then ended Aside 4 (codes "-->") bytes
    else if begins bytes (codes "<!") then None
    else if begins bytes (codes "<?") then ended Aside 2 (codes "?>") bytes
    else if begins bytes (codes "</") then ended End 2 (codes ">") bytes
    else option_map (λ len. (Start, 1 + len)) (len_to_close None (drop 1 bytes))

-- a token's kind and bytes, and the bytes after it
unfoldable pub cut_token : List ℕ → Option ((Kind × List ℕ) × List ℕ)
cut_token bytes = option_map (λ t. ((t.0, take t.1 bytes), drop t.1 bytes)) (token_at bytes)
