use Rattle.std.proofs.Common.{◌≡◌, ℕ, zero, suc, ◌<◌, List, [], ◌∷◌, ◌++◌, length, refl, ap, sym, ◌∙◌, arith, ◌⊎◌, inl, inr, subst}
use Rattle.std.specs.Prelude.{slice_get, Some, get_or, Contains, AllPairs, map}
use Rattle.std.proofs.lemmas.Bool.{cases_order}
use Rattle.std.proofs.lemmas.Option.{same_Some, slice_get_within, slice_get-get_or, get_or_from_slice_get}
use Rattle.std.proofs.lemmas.List.{length-map, get_or-map}
use Rattle.rulebook_order.specs.Sums.{sums}

-- the sum of two vectors of one width has that width
pub width-sums : (xs ys : List ℕ) (n : ℕ) → length xs ≡ n → length ys ≡ n → length (sums xs ys) ≡ n
width-sums [] ys n a b = a
width-sums (x ∷ xs) [] n a b = b
width-sums (x ∷ xs) (y ∷ ys) n a b = ap suc (width-sums xs ys (length xs) refl (omega arith)) ∙ a

-- an element stays where it is when a list grows
pub slice_get-append : {X : Type 0} (xs ys : List X) (i : ℕ) (x : X) → slice_get xs i ≡ Some x → slice_get (xs ++ ys) i ≡ Some x
slice_get-append [] ys i x h = absurd cc
slice_get-append (z ∷ xs) ys zero x h = h
slice_get-append (z ∷ xs) ys (suc i) x h = slice_get-append xs ys i x h

-- the last element
pub slice_get-snoc : {X : Type 0} (xs : List X) (x : X) → slice_get (xs ++ x ∷ []) (length xs) ≡ Some x
slice_get-snoc [] x = refl
slice_get-snoc (z ∷ xs) x = slice_get-snoc xs x

-- an element below the length
pub slice_get_some : {X : Type 0} (xs : List X) (i : ℕ) → i < length xs → (x : X) × (slice_get xs i ≡ Some x)
slice_get_some [] i h = absurd (omega arith)
slice_get_some (x ∷ xs) zero h = (x, refl)
slice_get_some (x ∷ xs) (suc i) h = slice_get_some xs i (omega arith)

-- an element of a list with one more: an earlier one, or the last
pub slice_get-push-cases : {X : Type 0} (xs : List X) (y : X) (i : ℕ) (x : X) → slice_get (xs ++ y ∷ []) i ≡ Some x → (slice_get xs i ≡ Some x) ⊎ ((i ≡ length xs) × (y ≡ x))
slice_get-push-cases [] y zero x h = inr (refl, same_Some y x h)
slice_get-push-cases [] y (suc i) x h = absurd cc
slice_get-push-cases (z ∷ xs) y zero x h = inl h
slice_get-push-cases (z ∷ xs) y (suc i) x h = elim (slice_get-push-cases xs y i x h) [ inl a ↦ inl a | inr b ↦ inr (ap suc b.0, b.1) ]

-- an element by its place
pub Contains-slice_get : {X : Type 0} (xs : List X) (x : X) → Contains xs x → (k : ℕ) × (slice_get xs k ≡ Some x)
Contains-slice_get xs x (k, below, at) = (k, slice_get-get_or xs k x below ∙ ap Some at)

pub Contains-from_slice_get : {X : Type 0} (xs : List X) (k : ℕ) (x : X) → slice_get xs k ≡ Some x → Contains xs x
Contains-from_slice_get xs k x at = (k, slice_get_within xs k x at, get_or_from_slice_get xs k x x at)

-- what two elements are to one another where each is related to each later one
pub pair_at : {X : Type 0} (R : X → X → Type 0) (xs : List X) → AllPairs R xs → (i j : ℕ) (x y : X) → i < j → slice_get xs i ≡ Some x → slice_get xs j ≡ Some y → R x y
pair_at R xs all i j x y below at_i at_j =
    let h = all i j x below (slice_get_within xs j y at_j) in
    subst (λ a. R a y) (get_or_from_slice_get xs i x x at_i) (subst (λ b. R (get_or xs i x) b) (get_or_from_slice_get xs j y x at_j) h)

pub pair_cases : {X : Type 0} (R : X → X → Type 0) (xs : List X) → AllPairs R xs → (x y : X) → Contains xs x → Contains xs y → (x ≡ y) ⊎ (R x y ⊎ R y x)
pair_cases R xs all x y in_x in_y =
    let a = Contains-slice_get xs x in_x in
    let b = Contains-slice_get xs y in_y in
    elim (cases_order a.0 b.0) [
      | inl e ↦ inl (same_Some x y (sym a.1 ∙ (ap (slice_get xs) e ∙ b.1)))
      | inr (inl below) ↦ inr (inl (pair_at R xs all a.0 b.0 x y below a.1 b.1))
      | inr (inr above) ↦ inr (inr (pair_at R xs all b.0 a.0 y x above b.1 a.1))
    ]

-- pairs of the images, from pairs of what they are images of
pub AllPairs-map : {X Y : Type 0} (f : X → Y) (R : Y → Y → Type 0) (xs : List X) → AllPairs (λ x y. R (f x) (f y)) xs → AllPairs R (map f xs)
AllPairs-map f R xs all i j d below inside =
    let in_j : j < length xs = omega (arith, length-map xs f) in
    let in_i : i < length xs = omega arith in
    let x = slice_get_some xs i in_i in
    rw (get_or-map f xs i x.0 d in_i, get_or-map f xs j x.0 d in_j) (all i j x.0 below in_j)

pub Contains-map : {X Y : Type 0} (f : X → Y) (xs : List X) (x : X) → Contains xs x → Contains (map f xs) (f x)
Contains-map f xs x (k, below, at) = (k, omega (arith, length-map xs f), get_or-map f xs k x (f x) below ∙ ap f at)
