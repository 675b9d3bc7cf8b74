-- Different numbers below n that all stay below n are all the numbers below n.
use Rattle.std.proofs.Common.{◌≡◌, ◌≢◌, ℕ, zero, suc, ◌+◌, ◌<◌, eqb, List, ◌∷◌, length, get_or, sym, ◌∙◌, inl, inr, arith}
use Rattle.std.specs.Prelude.{Contains, map}
use Rattle.std.specs.List.{range_with_len}
use Rattle.std.proofs.lemmas.Bool.{both_ways, cases_Bool, eq-eqb, eqb-true}
use Rattle.std.proofs.lemmas.List.{length-map}
use Rattle.std.proofs.lemmas.List.FromFn.{get_or-range_with_len, get_or-map-range_with_len, length-range_with_len}
use Rattle.rulebook_order.specs.laws.Below.{any_below, any_below-found, any_below-from}
use Rattle.rulebook_order.proofs.Counting.{distinct_within}

module _ (f : ℕ → ℕ) (n : ℕ) (stays : (i : ℕ) → i < n → f i < n) (different : (i j : ℕ) → i < n → j < n → i ≢ j → f i ≢ f j) where
  numbers : List ℕ
  numbers = range_with_len 0 n

  images : List ℕ
  images = map f numbers

  size : length images ≡ n
  unfolding images numbers
  size = length-map numbers f ∙ length-range_with_len 0 n

  image_at : (i d : ℕ) → i < n → get_or images i d ≡ f i
  unfolding images numbers
  image_at i d below = get_or-map-range_with_len f 0 n i i d below (omega arith)

  numbered : (k : ℕ) → k < n → Contains numbers k
  unfolding numbers
  numbered k below =
      let here : 0 + k ≡ k = omega arith in
      (k, omega (arith, length-range_with_len 0 n, below), get_or-range_with_len 0 n k k below ∙ here)

  module _ (k : ℕ) (below : k < n) (missed : (i : ℕ) → i < n → f i ≢ k) where
    apart : (i j d : ℕ) → i < j → j < length (k ∷ images) → get_or (k ∷ images) i d ≢ get_or (k ∷ images) j d
    apart i zero d before inside = absurd (omega arith)
    apart zero (suc j) d before inside =
        let j_below : j < n = omega (arith, size, inside) in
        λ same. missed j j_below (sym (image_at j d j_below) ∙ sym same)
    apart (suc i) (suc j) d before inside =
        let j_below : j < n = omega (arith, size, inside) in
        let i_below : i < n = omega (arith, before, j_below) in
        λ same. different i j i_below j_below (λ e. omega (arith, e, before)) (sym (image_at i d i_below) ∙ (same ∙ image_at j d j_below))

    within : (i d : ℕ) → i < length (k ∷ images) → Contains numbers (get_or (k ∷ images) i d)
    within zero d inside = numbered k below
    within (suc i) d inside =
        let i_below : i < n = omega (arith, size, inside) in
        rw (image_at i d i_below) (numbered (f i) (stays i i_below))

    pub none_missed : ⊥
    unfolding numbers
    none_missed = omega (arith, size, length-range_with_len 0 n, distinct_within (k ∷ images) numbers apart within)

  -- each number below n is one of them
  pub reached_by : (k : ℕ) → k < n → (i : ℕ) × (i < n) × (f i ≡ k)
  reached_by k below = elim (cases_Bool (any_below (λ i. eqb (f i) k) n)) [
    | inl some ↦ let found = any_below-found (λ i. eqb (f i) k) n some in (found.0, found.1, eqb-true (f found.0) k found.2)
    | inr none ↦ absurd (none_missed k below (λ i inside same. both_ways _ none (any_below-from (λ i. eqb (f i) k) n i inside (eq-eqb (f i) k same))))
  ]
