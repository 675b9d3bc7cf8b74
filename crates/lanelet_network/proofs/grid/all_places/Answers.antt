use Rattle.std.proofs.Common.{◌∙◌, ◌++◌, ◌∷◌, [], ap, sym, List, ℕ}
use Rattle.lanelet_network.proofs.Ranges.{range_more}
use Rattle.lanelet_network.proofs.grid.all_places.Goals as goal

pub loop-place-preserved : goal.loop-place-preserved
loop-place-preserved c =
    let place = c.loop-place.place in
    c.in_ok-push.ensures.items ∙ ap (λ (places : List ℕ). places ++ place ∷ []) c.loop-place.invariant ∙ sym (range_more place)
