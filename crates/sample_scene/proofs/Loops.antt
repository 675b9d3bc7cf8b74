-- One item more of a list that is made from a function of the index.
use Rattle.std.proofs.Common.{◌≡◌, ℕ, ◌+◌, ◌-◌, ◌≤◌, List, [], ◌∷◌, ◌++◌, map, sym, ap, ◌∙◌, append_assoc, arith}
use Rattle.std.specs.List.{range_with_len}
use Rattle.std.proofs.lemmas.List.FromFn.{map-range_with_len_more}

pub more_from_none : {X : Type 0} (f : ℕ → X) (xs : List X) (i : ℕ) → xs ≡ map f (range_with_len 0 i) → xs ++ f i ∷ [] ≡ map f (range_with_len 0 (i + 1))
more_from_none f xs i e = ap (λ ys. ys ++ f i ∷ []) e ∙ sym (map-range_with_len_more f 0 i i (omega arith))

pub more_from_one : {X : Type 0} (f : ℕ → X) (xs : List X) (i : ℕ) → 1 ≤ i → xs ≡ map f (range_with_len 1 (i - 1)) → xs ++ f i ∷ [] ≡ map f (range_with_len 1 (i + 1 - 1))
more_from_one f xs i h e =
    let one : i + 1 - 1 ≡ i - 1 + 1 = omega arith in
    ap (λ ys. ys ++ f i ∷ []) e ∙ sym (ap (λ n. map f (range_with_len 1 n)) one ∙ map-range_with_len_more f 1 (i - 1) i (omega arith))

-- two items more, one after the other
pub two_more : {X : Type 0} (xs ys zs : List X) (a b c d : X) → ys ≡ xs ++ a ∷ [] → zs ≡ ys ++ b ∷ [] → a ≡ c → b ≡ d → zs ≡ xs ++ c ∷ d ∷ []
two_more xs ys zs a b c d e f g h = f ∙ (ap (λ them. them ++ b ∷ []) e ∙ (append_assoc xs (a ∷ []) (b ∷ []) ∙ (λ i. xs ++ g i ∷ h i ∷ [])))
