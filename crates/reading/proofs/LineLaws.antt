-- The lines of some bytes are the first one, and the lines of what follows it.
use Rattle.std.proofs.Common.{◌≡◌, ℕ, ◌<◌, ◌+◌, false, eqb, List, [], ◌∷◌, length, Option, Some, None, refl, arith, length-drop}
use Rattle.std.specs.List.{position, position_or_len, before_first, after_first, slice_split}
use Rattle.std.specs.Str.Lines.{strip_carriage_return, lines_of_parts}
use Rattle.std.proofs.lemmas.List.{drop_all}
use Rattle.std.proofs.lemmas.Bool.{ne_eqb}
use Rattle.std.proofs.lemmas.List.Sums.{fails_before_first}
use Rattle.std.proofs.lemmas.List.Splits.{slice_split_none, slice_split_first, length-slice_split}
use Rattle.reading.specs.Lines.{first_line, after_line, is_feed, lines_of}
use Rattle.reading.proofs.Places.{position_is, no_position}

pub more_parts : (x : List ℕ) (parts : List (List ℕ)) → 0 < length parts → lines_of_parts (x ∷ parts) ≡ strip_carriage_return x ∷ lines_of_parts parts
more_parts x [] h = absurd (omega arith)
more_parts x (y ∷ parts) h = refl

one_part : (x : List ℕ) → 0 < length x → lines_of_parts (x ∷ []) ≡ x ∷ []
one_part x h =
    let filled : eqb (length x) 0 ≡ false = ne_eqb (length x) 0 (omega arith) in
    rw filled refl

lines_at : (bytes : List ℕ) (at : Option ℕ) → position is_feed bytes ≡ at → 0 < length bytes → lines_of bytes ≡ first_line bytes ∷ lines_of (after_line bytes)
unfolding lines_of first_line after_line
lines_at bytes (Some i) e h =
    let p = position_is is_feed bytes i e in
    let split = slice_split_first is_feed bytes 0 (omega (arith, p.0, p.1)) in
    rw (e, split) (more_parts (before_first is_feed bytes) (slice_split is_feed (after_first is_feed bytes)) (omega (arith, length-slice_split is_feed (after_first is_feed bytes))))
lines_at bytes None e h =
    let k = no_position is_feed bytes e in
    let split = slice_split_none is_feed bytes (λ i d lt. fails_before_first is_feed bytes i d (omega arith)) in
    let rest : after_first is_feed bytes ≡ [] = drop_all (position_or_len is_feed bytes + 1) bytes (omega arith) in
    rw (e, split, rest) (one_part bytes h)

pub lines_of-step : (bytes : List ℕ) → 0 < length bytes → lines_of bytes ≡ first_line bytes ∷ lines_of (after_line bytes)
lines_of-step bytes h = lines_at bytes (position is_feed bytes) refl h

pub lines_of-nil : (bytes : List ℕ) → length bytes ≡ 0 → lines_of bytes ≡ []
unfolding lines_of
lines_of-nil [] h = refl
lines_of-nil (b ∷ bytes) h = absurd (omega arith)

pub length-after_line : (bytes : List ℕ) → 0 < length bytes → length (after_line bytes) < length bytes
unfolding after_line
length-after_line bytes h = omega (arith, length-drop (position_or_len is_feed bytes + 1) bytes)

pub ruleset line_laws = (lines_of-step, lines_of-nil, length-after_line)
