-- What `position` says of the bytes before a place.
use Rattle.std.proofs.Common.{◌≡◌, ℕ, ◌≤◌, Bool, true, false, cond, ltb, List, length, Some, None, unwrap_or, refl, arith}
use Rattle.std.specs.List.{position, position_or_len}
use Rattle.std.proofs.lemmas.Bool.{ltb-false}
use Rattle.std.proofs.lemmas.List.Sums.{prefix_len-le-length}

pub position_within : (p : ℕ → Bool) (xs : List ℕ) → position_or_len p xs ≤ length xs
position_within p xs = prefix_len-le-length _ xs

or_len : (b : Bool) (n len : ℕ) → (b ≡ false → n ≡ len) → unwrap_or (cond b (Some n) None) len ≡ n
or_len true n len h = refl
or_len false n len h = let e = h refl in cc

pub position_or : (p : ℕ → Bool) (xs : List ℕ) → unwrap_or (position p xs) (length xs) ≡ position_or_len p xs
position_or p xs = or_len (ltb (position_or_len p xs) (length xs)) (position_or_len p xs) (length xs) (λ h. let k = ltb-false (position_or_len p xs) (length xs) h in omega (arith, k, position_within p xs))
