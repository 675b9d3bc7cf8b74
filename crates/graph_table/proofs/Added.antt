-- A vector to which numbers are added one after the other.
use Rattle.std.proofs.Common.{◌≡◌, ℕ, zero, suc, ◌+◌, ◌<◌, ◌≤◌, ◌^◌, List, [], ◌∷◌, length, refl, ap, ◌∙◌, arith}
use Rattle.std.specs.Prelude.{slice_index, slice_set, replicate}
use Rattle.rulebook_order.specs.StepGraph.{AllUpTo, HasRoom}
use Rattle.rulebook_order.specs.Sums.{sums}

-- the first numbers are added already
abbrev pub added : ℕ → List ℕ → List ℕ → List ℕ
added zero xs ys = xs
added (suc i) [] ys = []
added (suc i) (x ∷ xs) [] = x ∷ xs
added (suc i) (x ∷ xs) (y ∷ ys) = (x + y) ∷ added i xs ys

pub length_added : (i : ℕ) (xs ys : List ℕ) → length (added i xs ys) ≡ length xs
length_added zero xs ys = refl
length_added (suc i) [] ys = refl
length_added (suc i) (x ∷ xs) [] = refl
length_added (suc i) (x ∷ xs) (y ∷ ys) = ap suc (length_added i xs ys)

pub same_length : (out old amounts : List ℕ) (i : ℕ) → out ≡ added i old amounts → length out ≡ length old
same_length out old amounts i is = ap length is ∙ length_added i old amounts

-- those from the place on are as they were
pub added_there : (i : ℕ) (xs ys : List ℕ) → slice_index (added i xs ys) i ≡ slice_index xs i
added_there zero xs ys = refl
added_there (suc i) [] ys = refl
added_there (suc i) (x ∷ xs) [] = refl
added_there (suc i) (x ∷ xs) (y ∷ ys) = added_there i xs ys

pub added_next : (i : ℕ) (xs ys : List ℕ) → i < length xs → i < length ys → slice_set (added i xs ys) i (slice_index xs i + slice_index ys i) ≡ added (suc i) xs ys
added_next zero [] ys h k = absurd (omega arith)
added_next zero (x ∷ xs) [] h k = absurd (omega arith)
added_next zero (x ∷ xs) (y ∷ ys) h k = refl
added_next (suc i) [] ys h k = absurd (omega arith)
added_next (suc i) (x ∷ xs) [] h k = absurd (omega arith)
added_next (suc i) (x ∷ xs) (y ∷ ys) h k = ap (λ rest. (x + y) ∷ rest) (added_next i xs ys (omega arith) (omega arith))

pub added_all : (i : ℕ) (xs ys : List ℕ) → length xs ≡ length ys → length xs ≤ i → added i xs ys ≡ sums xs ys
added_all zero [] ys e h = refl
added_all zero (x ∷ xs) ys e h = absurd (omega arith)
added_all (suc i) [] ys e h = refl
added_all (suc i) (x ∷ xs) [] e h = absurd (omega arith)
added_all (suc i) (x ∷ xs) (y ∷ ys) e h = ap (λ rest. (x + y) ∷ rest) (added_all i xs ys (omega arith) (omega arith))

pub all_added : (out old amounts : List ℕ) (i : ℕ) → out ≡ added i old amounts → length old ≡ length amounts → length old ≤ i → out ≡ sums old amounts
all_added out old amounts i is e h = is ∙ added_all i old amounts e h

-- one number more
pub added_one : (out old amounts new : List ℕ) (i amount : ℕ) → out ≡ added i old amounts → i < length old → i < length amounts → amount ≡ slice_index amounts i
    → new ≡ slice_set out i (slice_index out i + amount) → new ≡ added (i + 1) old amounts
added_one out old amounts new i amount before within inside is e =
    let next : suc i ≡ i + 1 = omega arith in
    e ∙ (λ j. slice_set (before j) i (slice_index (before j) i + is j)) ∙ ap (λ (n : ℕ). slice_set (added i old amounts) i (n + slice_index amounts i)) (added_there i old amounts)
    ∙ added_next i old amounts within inside ∙ ap (λ (n : ℕ). added n old amounts) next

-- zeros add nothing
pub sums_with_zeros : (xs : List ℕ) (n : ℕ) → length xs ≡ n → sums xs (replicate n 0) ≡ xs
sums_with_zeros [] n e = refl
sums_with_zeros (x ∷ xs) zero e = absurd (omega arith)
sums_with_zeros (x ∷ xs) (suc n) e = grind (arith, sums_with_zeros xs n (omega arith))

-- a vector up to the limit fits where there is room for the limit
pub sums_fit : (limit : ℕ) (xs ys : List ℕ) → HasRoom limit xs → AllUpTo limit ys → length ys ≡ length xs → (i : ℕ) → i < length xs → slice_index xs i + slice_index ys i < 2 ^ 64
sums_fit limit xs ys room up same i within = (let x = room i 0 within in let y = up i 0 (omega arith) in omega arith)
