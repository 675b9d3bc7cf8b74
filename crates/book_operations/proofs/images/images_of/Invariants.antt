use Rattle.std.specs.Prelude.{◌≡◌, ℕ, ◌<◌, All, length, slice_index}
use Rattle.book_operations.specs.Images.{image_at}
use Rattle.book_operations.proofs.images.images_of.Given as goal

abbrev pub invariant-loop-rule : goal.invariant-loop-rule
invariant-loop-rule l =
    (length l.images ≡ l.rule-index)
    × All (λ i. i < length l.others) l.images
    × ((k : ℕ) → k < l.rule-index → slice_index l.images k ≡ image_at l.rules l.others k)
