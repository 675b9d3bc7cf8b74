-- Pieces that are cut one after the other.
use Rattle.std.proofs.Common.{◌≡◌, ℕ, zero, suc, ◌<◌, ◌≤◌, List, [], ◌∷◌, length, Option, Some, None, refl, ap, sym, arith}
use Rattle.element_tree.specs.Pieces.{or_end, pieces_within, pieces}

-- what is left is shorter
abbrev pub Shrinks : {X : Type 0} → (List ℕ → Option (X × List ℕ)) → Type 0
Shrinks {X} cut = (bytes : List ℕ) (x : X × List ℕ) → cut bytes ≡ Some x → length x.1 < length bytes

again : {X : Type 0} (bytes : List ℕ) (f g : List ℕ → List X × List ℕ) (r : Option (X × List ℕ))
    → ((x : X × List ℕ) → r ≡ Some x → f x.1 ≡ g x.1) → or_end bytes f r ≡ or_end bytes g r
again bytes f g None h = refl
again bytes f g (Some x) h = ap (λ y. (x.0 ∷ y.0, y.1)) (h x refl)

none_in : {X : Type 0} (cut : List ℕ → Option (X × List ℕ)) → Shrinks cut → (bytes : List ℕ) (f : List ℕ → List X × List ℕ) (r : Option (X × List ℕ)) → cut bytes ≡ r → length bytes ≤ 0 → or_end bytes f r ≡ ([], bytes)
none_in cut s bytes f None e h = refl
none_in cut s bytes f (Some x) e h = let k = s bytes x e in absurd (omega (arith, k))

-- it doesn't matter how far above the length the bound is
pub enough : {X : Type 0} (cut : List ℕ → Option (X × List ℕ)) → Shrinks cut → (n m : ℕ) (bytes : List ℕ)
    → length bytes ≤ n → length bytes ≤ m → pieces_within cut n bytes ≡ pieces_within cut m bytes
unfolding pieces_within
enough cut s zero zero bytes h k = refl
enough cut s zero (suc m) bytes h k = sym (none_in cut s bytes (pieces_within cut m) (cut bytes) refl h)
enough cut s (suc n) zero bytes h k = none_in cut s bytes (pieces_within cut n) (cut bytes) refl k
enough cut s (suc n) (suc m) bytes h k =
    again bytes (pieces_within cut n) (pieces_within cut m) (cut bytes) (λ x e. let lt = s bytes x e in enough cut s n m x.1 (omega (arith, lt)) (omega (arith, lt)))

unrolled : {X : Type 0} (cut : List ℕ → Option (X × List ℕ)) → Shrinks cut → (n : ℕ) (bytes : List ℕ) → length bytes ≤ n
    → pieces_within cut n bytes ≡ or_end bytes (pieces cut) (cut bytes)
unfolding pieces pieces_within
unrolled cut s zero bytes h = sym (none_in cut s bytes (pieces cut) (cut bytes) refl h)
unrolled cut s (suc n) bytes h =
    again bytes (pieces_within cut n) (pieces cut) (cut bytes) (λ x e. let lt = s bytes x e in enough cut s n (length x.1) x.1 (omega (arith, lt)) (omega arith))

-- the pieces are the first and those of the rest
pub pieces_unroll : {X : Type 0} (cut : List ℕ → Option (X × List ℕ)) → Shrinks cut → (bytes : List ℕ) → pieces cut bytes ≡ or_end bytes (pieces cut) (cut bytes)
unfolding pieces
pieces_unroll cut s bytes = unrolled cut s (length bytes) bytes (omega arith)
