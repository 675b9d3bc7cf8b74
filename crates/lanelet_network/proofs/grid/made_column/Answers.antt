use Rattle.std.proofs.Common.{◌≡◌, ◌∙◌, ◌+◌, ◌++◌, ◌∷◌, [], List, ℕ, ap, sym, arith}
use Rattle.std.proofs.lemmas.List.FromFn.{map-range_with_len_more}
use Rattle.lanelet_network.specs.Strips.{reaching}
use Rattle.lanelet_network.specs.Cells.{cells_of}
use Rattle.lanelet_network.proofs.grid.made_column.Goals as goal

pub loop-row-preserved : goal.loop-row-preserved
loop-row-preserved c =
    let in_y = c.args.in_y.now in
    let places = c.args.places.now in
    let row = c.loop-row.row in
    let more : cells_of in_y (row + 1) places ≡ cells_of in_y row places ++ reaching in_y row places ∷ [] = map-range_with_len_more (λ row. reaching in_y row places) 0 row row (omega arith) in
    c.in_ok-push.ensures.items ∙ ap (λ (cells : List (List ℕ)). cells ++ c.in_ok-places.places.items ∷ []) c.loop-row.invariant ∙ ap (λ (cell : List ℕ). cells_of in_y row places ++ cell ∷ []) c.in_ok-places.ensures ∙ sym more
