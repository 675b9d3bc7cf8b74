-- A test on whether names are all different.
use Rattle.std.proofs.Common.{◌≡◌, ℕ, zero, suc, Bool, true, List, [], ◌∷◌, ap, arith}
use Rattle.std.specs.Prelude.{◌≢◌, All, not, ◌&&◌}
use Rattle.std.specs.List.{AllPairs, list_all}
use Rattle.std.specs.Str.{bytes_eq}
use Rattle.std.proofs.lemmas.Bool.{and_parts, both_ways}
use Rattle.std.proofs.lemmas.Slice.Eq.{bytes_eq-Decides}
use Rattle.rule_language.specs.Names.{AreDifferent}
use Rattle.sample_scene.proofs.Made.{each_passes}

abbrev pub are_apart : {X : Type 0} → (X → List ℕ) → List X → Bool
are_apart name_of [] = true
are_apart name_of (x ∷ xs) = list_all (λ y. not (bytes_eq (name_of x) (name_of y))) xs && are_apart name_of xs

pairs_cons : {X : Type 0} (R : X → X → Type 0) (x : X) (xs : List X) → All (R x) xs → AllPairs R xs → AllPairs R (x ∷ xs)
pairs_cons R x xs first rest zero zero d less within = absurd (omega arith)
pairs_cons R x xs first rest zero (suc j) d less within = first j d (omega arith)
pairs_cons R x xs first rest (suc i) zero d less within = absurd (omega arith)
pairs_cons R x xs first rest (suc i) (suc j) d less within = rest i j d (omega arith) (omega arith)

told_apart : (xs ys : List ℕ) → not (bytes_eq xs ys) ≡ true → xs ≢ ys
told_apart xs ys h same = both_ways (not (bytes_eq xs ys)) (ap not ((bytes_eq-Decides xs ys).1 same)) h

pub different_by_test : {X : Type 0} (name_of : X → List ℕ) (xs : List X) → are_apart name_of xs ≡ true → AreDifferent name_of xs
different_by_test name_of [] h = λ i j d less within. absurd (omega arith)
different_by_test name_of (x ∷ xs) h =
    let parts = and_parts (list_all (λ y. not (bytes_eq (name_of x) (name_of y))) xs) (are_apart name_of xs) h in
    pairs_cons (λ a b. name_of a ≢ name_of b) x xs
    (each_passes (λ y. not (bytes_eq (name_of x) (name_of y))) (λ y. name_of x ≢ name_of y) (λ y. told_apart (name_of x) (name_of y)) xs parts.0)
    (different_by_test name_of xs parts.1)
