-- What holds of each item, and of each two, of a list that is made from a function of the index; what a test says of each item of a list that is written out.
use Rattle.std.proofs.Common.{◌≡◌, ℕ, ◌<◌, Bool, true, List, [], ◌∷◌, map, get_or, sym, subst, zero-add, arith}
use Rattle.std.specs.Prelude.{All}
use Rattle.std.specs.List.{range_with_len, list_all, AllPairs}
use Rattle.std.proofs.lemmas.Bool.{and_parts}
use Rattle.std.proofs.lemmas.List.Elements.{All-nil, All-cons}
use Rattle.std.proofs.lemmas.List.FromFn.{length-map-range_with_len, get_or-map-range_with_len}

item_at : {X : Type 0} (f : ℕ → X) (n i : ℕ) (d : X) → i < n → f i ≡ get_or (map f (range_with_len 0 n)) i d
item_at f n i d h = sym (get_or-map-range_with_len f 0 n i i d h (zero-add i))

pub each_made : {X : Type 0} (P : X → Type 0) (f : ℕ → X) (n : ℕ) → ((i : ℕ) → i < n → P (f i)) → All P (map f (range_with_len 0 n))
each_made P f n each = λ i d within.
    let inside : i < n = omega (arith, within, length-map-range_with_len f 0 n) in
    subst P (item_at f n i d inside) (each i inside)

pub each_two_made : {X : Type 0} (R : X → X → Type 0) (f : ℕ → X) (n : ℕ) → ((i j : ℕ) → i < j → j < n → R (f i) (f j)) → AllPairs R (map f (range_with_len 0 n))
each_two_made R f n each = λ i j d less within.
    let inside : j < n = omega (arith, within, length-map-range_with_len f 0 n) in
    let before : i < n = omega arith in
    subst (λ x. R x (get_or (map f (range_with_len 0 n)) j d)) (item_at f n i d before) (subst (R (f i)) (item_at f n j d inside) (each i j less inside))

pub each_passes : {X : Type 0} (test : X → Bool) (P : X → Type 0) → ((x : X) → test x ≡ true → P x) → (xs : List X) → list_all test xs ≡ true → All P xs
each_passes test P tells [] h = All-nil P
each_passes test P tells (x ∷ xs) h =
    let parts = and_parts (test x) (list_all test xs) h in
    All-cons P x xs (tells x parts.0) (each_passes test P tells xs parts.1)
