-- Numbers from 0 on.
use Rattle.std.proofs.Common.{◌≡◌, ◌∙◌, ℕ, ◌+◌, ◌++◌, ◌∷◌, [], List, sym, ap, refl, arith, map}
use Rattle.std.specs.List.{range_with_len}
use Rattle.std.proofs.lemmas.List.FromFn.{map-range_with_len_more}
use Rattle.std.proofs.lemmas.List.Folds.{map_fixed}

same_number : ℕ → ℕ
same_number k = k

-- one number more
pub range_more : (n : ℕ) → range_with_len 0 (n + 1) ≡ range_with_len 0 n ++ n ∷ []
unfolding same_number
range_more n =
    let before : map same_number (range_with_len 0 n) ≡ range_with_len 0 n = map_fixed same_number (range_with_len 0 n) (λ k d h. refl) in
    let after : map same_number (range_with_len 0 (n + 1)) ≡ range_with_len 0 (n + 1) = map_fixed same_number (range_with_len 0 (n + 1)) (λ k d h. refl) in
    sym after ∙ map-range_with_len_more same_number 0 n n (omega arith) ∙ ap (λ (numbers : List ℕ). numbers ++ n ∷ []) before
