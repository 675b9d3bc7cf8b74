-- The places of a front are places of rows.
use Rattle.std.proofs.Common.{ℕ, ◌<◌, List, length, get_or, arith}
use Rattle.std.specs.Prelude.{All}
use Rattle.std.proofs.lemmas.List.{length-map}
use Rattle.std.proofs.lemmas.List.Elements.{Contains-get_or}
use Rattle.preorder.specs.declared.row.Row.{Row}
use Rattle.rulebook_order.specs.Front.{vectors_of, IsFront}

pub places_inside : (IsNoWorse : List ℕ → List ℕ → Type 0) (rows : List Row) (places : List ℕ) → IsFront IsNoWorse (vectors_of rows) places → All (λ (i : ℕ). i < length rows) places
places_inside IsNoWorse rows places front k d inside =
    let kept = (front.exact (get_or places k d)).0 (Contains-get_or places k d inside) in
    omega (arith, kept.here, length-map rows (λ (r : Row). r.values))
