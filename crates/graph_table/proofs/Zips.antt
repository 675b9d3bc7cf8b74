-- Two lists whose items are related one by one.
use Rattle.std.proofs.Common.{◌≡◌, ℕ, zero, suc, List, [], ◌∷◌, ◌++◌, length, refl, ap, subst, get_or}
use Rattle.std.specs.List.{AllZip}
use Rattle.std.specs.Prelude.{slice_get, Some}
use Rattle.std.proofs.lemmas.Option.{same_Some}

module _ {X Y : Type 0} (R : X → Y → Type 0) where
  pub zip_at : (xs : List X) (ys : List Y) (i : ℕ) (x : X) (d : Y) → AllZip R xs ys → slice_get xs i ≡ Some x → R x (get_or ys i d)
  zip_at [] [] i x d all at = absurd cc
  zip_at [] (y ∷ ys) i x d all at = absurd all
  zip_at (z ∷ xs) [] i x d all at = absurd all
  zip_at (z ∷ xs) (y ∷ ys) zero x d all at = subst (λ a. R a y) (same_Some z x at) all.0
  zip_at (z ∷ xs) (y ∷ ys) (suc i) x d all at = zip_at xs ys i x d all.1 at

  pub zip_length : (xs : List X) (ys : List Y) → AllZip R xs ys → length xs ≡ length ys
  zip_length [] [] all = refl
  zip_length [] (y ∷ ys) all = absurd all
  zip_length (x ∷ xs) [] all = absurd all
  zip_length (x ∷ xs) (y ∷ ys) all = ap suc (zip_length xs ys all.1)

  pub zip_push : (xs : List X) (ys : List Y) (x : X) (y : Y) → AllZip R xs ys → R x y → AllZip R (xs ++ x ∷ []) (ys ++ y ∷ [])
  zip_push [] [] x y all r = (r, tt)
  zip_push [] (z ∷ ys) x y all r = absurd all
  zip_push (z ∷ xs) [] x y all r = absurd all
  zip_push (z ∷ xs) (w ∷ ys) x y all r = (all.0, zip_push xs ys x y all.1 r)
