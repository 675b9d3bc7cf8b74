-- What `position` says of the bytes before and after a place.
use Rattle.std.proofs.Common.{◌≡◌, ℕ, ◌<◌, ◌≤◌, ◌+◌, ◌-◌, Bool, true, false, cond, ltb, List, [], length, take, drop, Some, None, refl, sym, ap, ◌∙◌, arith}
use Rattle.std.specs.List.{position, position_or_len}
use Rattle.std.specs.Str.Lines.{strip_carriage_return}
use Rattle.std.proofs.lemmas.Bool.{ltb-true, ltb-false}
use Rattle.std.proofs.lemmas.List.{drop_all, take_rest}
use Rattle.reading.specs.Lines.{first_line, after_line, is_feed}
use Rattle.reading.proofs.Truth.{refused}

chosen : (b : Bool) (n i : ℕ) → cond b (Some n) None ≡ Some i → (b ≡ true) × (n ≡ i)
chosen true n i e = (refl, cc)
chosen false n i e = absurd cc

pub position_is : (p : ℕ → Bool) (xs : List ℕ) (i : ℕ) → position p xs ≡ Some i → (position_or_len p xs ≡ i) × (i < length xs)
position_is p xs i e =
    let k = chosen (ltb (position_or_len p xs) (length xs)) (position_or_len p xs) i e in
    (k.1, omega (arith, ltb-true _ _ k.0))

pub no_position : (p : ℕ → Bool) (xs : List ℕ) → position p xs ≡ None → length xs ≤ position_or_len p xs
no_position p xs e = ltb-false (position_or_len p xs) (length xs) (refused (ltb (position_or_len p xs) (length xs)) (position_or_len p xs) e)

pub line_at : (bytes : List ℕ) (i : ℕ) → position is_feed bytes ≡ Some i → first_line bytes ≡ strip_carriage_return (take i bytes)
unfolding first_line
line_at bytes i e = rw e (ap (λ (n : ℕ). strip_carriage_return (take n bytes)) (position_is is_feed bytes i e).0)

-- as the code spells `&bytes[i + 1..]`
pub rest_at : (bytes : List ℕ) (i : ℕ) → position is_feed bytes ≡ Some i → after_line bytes ≡ take (length bytes - (i + 1)) (drop (i + 1) bytes)
unfolding after_line
rest_at bytes i e = ap (λ (n : ℕ). drop (n + 1) bytes) (position_is is_feed bytes i e).0 ∙ sym (take_rest bytes (i + 1))

pub line_all : (bytes : List ℕ) → position is_feed bytes ≡ None → first_line bytes ≡ bytes
unfolding first_line
line_all bytes e = rw e refl

pub rest_all : (bytes : List ℕ) → position is_feed bytes ≡ None → after_line bytes ≡ []
unfolding after_line
rest_all bytes e = drop_all (position_or_len is_feed bytes + 1) bytes (omega (arith, no_position is_feed bytes e))
