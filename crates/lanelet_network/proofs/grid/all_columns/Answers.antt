use Rattle.std.proofs.Common.{◌≡◌, ◌∙◌, ◌+◌, ◌++◌, ◌∷◌, [], ap, sym, arith, List, ℕ}
use Rattle.std.proofs.lemmas.List.FromFn.{map-range_with_len_more}
use Rattle.lanelet_network.specs.Strips.{reaching}
use Rattle.lanelet_network.specs.Cells.{cells_of, columns_of}
use Rattle.lanelet_network.proofs.grid.all_columns.Goals as goal

pub loop-number-preserved : goal.loop-number-preserved
loop-number-preserved c =
    let in_x = c.args.in_x.now in
    let in_y = c.args.in_y.now in
    let rows = c.args.size.1 in
    let places = c.args.places.now in
    let number = c.loop-number.number in
    let more : columns_of in_x in_y (number + 1) rows places ≡ columns_of in_x in_y number rows places ++ cells_of in_y rows (reaching in_x number places) ∷ [] = map-range_with_len_more (λ column. cells_of in_y rows (reaching in_x column places)) 0 number number (omega arith) in
    let held : c.as_slice.result.now ≡ reaching in_x number places = c.as_slice.ensures.value ∙ c.in_ok-in_column.ensures in
    let column : c.in_ok-made_column.field-0 ≡ cells_of in_y rows (reaching in_x number places) = c.in_ok-made_column.ensures ∙ ap (λ (held : List ℕ). cells_of in_y rows held) held in
    c.in_ok-push.ensures.items ∙ ap (λ (columns : List (List (List ℕ))). columns ++ c.in_ok-made_column.field-0 ∷ []) c.loop-number.invariant ∙ ap (λ (column : List (List ℕ)). columns_of in_x in_y number rows places ++ column ∷ []) column ∙ sym more
