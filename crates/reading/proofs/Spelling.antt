-- What is written as a line is read as that line, and what is written as a word as that word.
use Rattle.std.proofs.Common.{◌≡◌, ℕ, ◌<◌, true, false, not, List, [], ◌∷◌, ◌++◌, length, refl, ap, ◌∙◌, arith}
use Rattle.std.specs.List.{All, slice_split}
use Rattle.std.specs.Str.Lines.{strip_carriage_return, lines_of_parts}
use Rattle.std.proofs.lemmas.Bool.{ne_eqb}
use Rattle.std.proofs.lemmas.List.Splits.{slice_split_none, slice_split_at, length-slice_split}
use Rattle.reading.specs.Bytes.{line_feed, space}
use Rattle.reading.specs.Lines.{is_feed, lines_of}
use Rattle.reading.specs.Words.{is_blank, is_word, words}
use Rattle.reading.proofs.LineLaws.{more_parts}

pub lines_of-line : (line rest : List ℕ) → All (λ b. is_feed b ≡ false) line → strip_carriage_return line ≡ line → lines_of (line ++ line_feed ∷ rest) ≡ line ∷ lines_of rest
unfolding lines_of
lines_of-line line rest plain strip =
    rw (slice_split_at is_feed line line_feed rest plain refl) (more_parts line (slice_split is_feed rest) (omega (arith, length-slice_split is_feed rest)) ∙ ap (λ l. l ∷ lines_of_parts (slice_split is_feed rest)) strip)

kept : (word : List ℕ) → 0 < length word → is_word word ≡ true
kept word h = ap not (ne_eqb (length word) 0 (omega arith))

pub words-word : (word rest : List ℕ) → All (λ b. is_blank b ≡ false) word → 0 < length word → words (word ++ space ∷ rest) ≡ word ∷ words rest
unfolding words
words-word word rest plain h = rw (slice_split_at is_blank word space rest plain refl, ne_eqb (length word) 0 (omega arith)) refl

pub words-last : (word : List ℕ) → All (λ b. is_blank b ≡ false) word → 0 < length word → words word ≡ word ∷ []
unfolding words
words-last word plain h = rw (slice_split_none is_blank word plain, ne_eqb (length word) 0 (omega arith)) refl
