-- What a filter keeps.
use Rattle.std.proofs.Common.{◌≡◌, zero, suc, Bool, true, List, [], ◌∷◌, refl, ap, ◌∙◌, arith, inl, inr}
use Rattle.std.specs.Prelude.{All, Contains, filter}
use Rattle.std.proofs.lemmas.Bool.{cases_Bool, cond-true, cond-false}
use Rattle.std.proofs.lemmas.List.Elements.{All-nil, All-cons, All-contains, All-filter, All-contains_itself, All-head, All-tail}

Contains-cons : {X : Type 0} (y : X) (xs : List X) (x : X) → Contains xs x → Contains (y ∷ xs) x
Contains-cons y xs x (k, below, at) = (suc k, omega arith, at)

pub Contains-filter : {X : Type 0} (p : X → Bool) (xs : List X) (x : X) → Contains xs x → p x ≡ true → Contains (filter p xs) x
Contains-filter p [] x (k, below, at) h = absurd (omega arith)
Contains-filter p (y ∷ ys) x (zero, below, at) h =
    let t : p y ≡ true = ap p at ∙ h in
    rw (cond-true (p y) (y ∷ filter p ys) (filter p ys) t) (0, omega arith, at)
Contains-filter p (y ∷ ys) x (suc k, below, at) h =
    let ih = Contains-filter p ys x (k, omega arith, at) h in
    elim (cases_Bool (p y)) [
      | inl t ↦ rw (cond-true (p y) (y ∷ filter p ys) (filter p ys) t) (Contains-cons y (filter p ys) x ih)
      | inr f ↦ rw (cond-false (p y) (y ∷ filter p ys) (filter p ys) f) ih
    ]

pub All-filter_true : {X : Type 0} (p : X → Bool) (xs : List X) → All (λ x. p x ≡ true) (filter p xs)
All-filter_true p [] = All-nil (λ x. p x ≡ true)
All-filter_true p (y ∷ ys) = elim (cases_Bool (p y)) [
  | inl t ↦ rw (cond-true (p y) (y ∷ filter p ys) (filter p ys) t) (All-cons (λ x. p x ≡ true) y (filter p ys) t (All-filter_true p ys))
  | inr f ↦ rw (cond-false (p y) (y ∷ filter p ys) (filter p ys) f) (All-filter_true p ys)
]

pub Contains-from_filter : {X : Type 0} (p : X → Bool) (xs : List X) (x : X) → Contains (filter p xs) x → Contains xs x
Contains-from_filter p xs x h = All-contains (Contains xs) (filter p xs) x (All-filter p (Contains xs) xs (All-contains_itself xs)) h

-- a filter that takes nothing away
pub filter-all : {X : Type 0} (p : X → Bool) (xs : List X) → All (λ x. p x ≡ true) xs → filter p xs ≡ xs
filter-all p [] h = refl
filter-all p (y ∷ ys) h =
    let t = All-head (λ x. p x ≡ true) y ys h in
    cond-true (p y) (y ∷ filter p ys) (filter p ys) t ∙ ap (λ zs. y ∷ zs) (filter-all p ys (All-tail (λ x. p x ≡ true) y ys h))
