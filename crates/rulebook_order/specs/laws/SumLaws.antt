use Rattle.std.specs.Prelude.{◌≡◌, ℕ, ◌+◌, ◌<◌, List, [], ◌∷◌, length, slice_index, refl}
use Rattle.std.proofs.Common.{zero, suc, ap, arith}
use Rattle.rulebook_order.specs.Sums.{sums}

pub slice_index-sums : (xs ys : List ℕ) (k : ℕ) → k < length xs → k < length ys
    → slice_index (sums xs ys) k ≡ slice_index xs k + slice_index ys k
slice_index-sums [] ys k p q = absurd (omega arith)
slice_index-sums (x ∷ xs) [] k p q = absurd (omega arith)
slice_index-sums (x ∷ xs) (y ∷ ys) zero p q = refl
slice_index-sums (x ∷ xs) (y ∷ ys) (suc k) p q =
    slice_index-sums xs ys k (omega arith) (omega arith)

pub length-sums : (xs ys : List ℕ) → length xs ≡ length ys → length (sums xs ys) ≡ length xs
length-sums [] ys e = refl
length-sums (x ∷ xs) [] e = absurd (omega arith)
length-sums (x ∷ xs) (y ∷ ys) e = ap suc (length-sums xs ys (omega arith))
