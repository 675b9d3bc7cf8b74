-- What one attribute says of all.
use Rattle.std.proofs.Common.{◌≡◌, ℕ, ◌<◌, List, [], ◌∷◌, length, Some, None, refl, ◌∙◌}
use Rattle.element_tree.specs.Pieces.{pieces}
use Rattle.element_tree.specs.Tags.{attribute_at}
use Rattle.element_tree.proofs.PieceLaws.{pieces_unroll}
use Rattle.element_tree.proofs.Shrinks.{attribute_shrinks}

pub attributes_none : (bytes : List ℕ) → attribute_at bytes ≡ None → pieces attribute_at bytes ≡ ([], bytes)
attributes_none bytes e = pieces_unroll attribute_at attribute_shrinks bytes ∙ rw e refl

pub attributes_at : (bytes : List ℕ) (a : List ℕ × List ℕ) (rest : List ℕ) → attribute_at bytes ≡ Some (a, rest)
    → (pieces attribute_at bytes ≡ (a ∷ (pieces attribute_at rest).0, (pieces attribute_at rest).1)) × (length rest < length bytes)
attributes_at bytes a rest e = (pieces_unroll attribute_at attribute_shrinks bytes ∙ rw e refl, attribute_shrinks bytes (a, rest) e)
