-- Each line that is written is read as what it was written of.
use Rattle.std.proofs.Common.{◌≡◌, ℕ, ◌+◌, ◌≤◌, true, false, List, [], ◌∷◌, ◌++◌, length, map, Ok, refl, ap, ◌∙◌, arith, eqb, append_assoc}
use Rattle.std.specs.Prelude.{nat_lt}
use Rattle.std.specs.List.{All, position_or_len}
use Rattle.std.specs.Fmt.{decimal}
use Rattle.std.proofs.Math.Seq.{get_or-append_seam, take-append_seam, drop-append-add}
use Rattle.std.proofs.lemmas.Bool.{lt-ltb, le-ltb}
use Rattle.std.proofs.lemmas.List.{get_or_append_left, length-append}
use Rattle.std.proofs.lemmas.List.Elements.{All-append}
use Rattle.std.proofs.lemmas.List.Sums.{position_or_len_is}
use Rattle.std.proofs.lemmas.Slice.Eq.{bytes_eq-Decides}
use Rattle.reading.specs.Lines.{is_feed}
use Rattle.text_lines.specs.Lines.{cells}
use Rattle.certificate_text.specs.At.{At}
use Rattle.certificate_text.specs.Cursors.{needed, fixed}
use Rattle.certificate_text.specs.Numbers.{named_on}
use Rattle.certificate_text.specs.ReadText.{named}
use Rattle.certificate_text.specs.Text.{ended, named_line, IsSmall}
use Rattle.certificate_text.proofs.WrittenNumbers.{Lacks, numbers_written, cells_lack, parts_written}
use Rattle.certificate_text.specs.declared.TheConstants.{MAX_LABELS}

-- this place, at a line of this number, with so many links read
abbrev pub place : List ℕ → ℕ → ℕ → At
place rest number links = record { rest = rest; number = number; links = links }

feed_place : (line rest : List ℕ) → Lacks 10 line → position_or_len is_feed (line ++ 10 ∷ rest) ≡ length line
feed_place line rest plain =
    let size : length (line ++ 10 ∷ rest) ≡ length line + length (10 ∷ rest) = length-append line (10 ∷ rest) in
    position_or_len_is is_feed (line ++ 10 ∷ rest) (length line) 0 (omega (arith, size))
    (λ k lt. ap is_feed (get_or_append_left line (10 ∷ rest) 0 k lt) ∙ plain k 0 lt)
    (λ lt. ap is_feed (get_or-append_seam line 10 rest 0))

needed_here : (line rest : List ℕ) (n k : ℕ) → Lacks 10 line → needed (place (line ++ 10 ∷ rest) n k) ≡ Ok (line, place rest (n + 1) k)
unfolding needed
needed_here line rest n k plain =
    let p = feed_place line rest plain in
    let size : length (line ++ 10 ∷ rest) ≡ length line + length (10 ∷ rest) = length-append line (10 ∷ rest) in
    let inside : nat_lt (length line) (length (line ++ 10 ∷ rest)) ≡ true = lt-ltb (length line) (length (line ++ 10 ∷ rest)) (omega (arith, size)) in
    rw (p, inside, take-append_seam line (10 ∷ rest), drop-append-add line (10 ∷ rest) 1) refl

pub needed_written : (line rest : List ℕ) (n k : ℕ) → Lacks 10 line → needed (place (ended line ++ rest) n k) ≡ Ok (line, place rest (n + 1) k)
needed_written line rest n k plain = ap (λ t. needed (place t n k)) (append_assoc line (10 ∷ []) rest) ∙ needed_here line rest n k plain

pub fixed_written : (text rest : List ℕ) (n k : ℕ) → Lacks 10 text → fixed text (place (ended text ++ rest) n k) ≡ Ok (tt, place rest (n + 1) k)
unfolding fixed
fixed_written text rest n k plain = rw (needed_written text rest n k plain, (bytes_eq-Decides text text).1 refl) refl

named_words_written : (name : List ℕ) (n : ℕ) (vs : List ℕ) → All IsSmall vs → length vs ≤ MAX_LABELS → named_on name n (name ∷ map decimal vs) ≡ Ok vs
unfolding named_on
named_words_written name n vs small le = rw ((bytes_eq-Decides name name).1 refl, numbers_written n vs small, le-ltb MAX_LABELS (length vs) le) refl

pub named_written : (name rest : List ℕ) (n k : ℕ) (vs : List ℕ) → Lacks 10 name → Lacks 32 name → All IsSmall vs → length vs ≤ MAX_LABELS
    → named name (place (named_line name vs ++ rest) n k) ≡ Ok (vs, place rest (n + 1) k)
unfolding named
named_written name rest n k vs lines words small le =
    let plain = All-append (λ (b : ℕ). eqb b 10 ≡ false) name (cells vs) lines (cells_lack vs small) in
    rw (needed_written (name ++ cells vs) rest n k plain, parts_written name vs words small, named_words_written name n vs small le) refl
