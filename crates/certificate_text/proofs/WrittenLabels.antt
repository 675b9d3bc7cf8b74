-- The lines of labels that are written are read as these labels.
use Rattle.std.proofs.Common.{◌≡◌, ℕ, suc, ◌+◌, ◌-◌, ◌<◌, ◌≤◌, Bool, true, false, not, List, [], ◌∷◌, ◌++◌, length, drop, map, Ok, refl, sym, ap, ◌∙◌, arith, eqb, append_assoc}
use Rattle.std.specs.Prelude.{codes}
use Rattle.std.specs.List.{All, list_all, flat_map, sum_by}
use Rattle.std.specs.Fmt.{decimal}
use Rattle.std.proofs.lemmas.Bool.{le-ltb, ne_eqb}
use Rattle.std.proofs.lemmas.Fmt.{decimal_nonempty}
use Rattle.std.proofs.lemmas.List.{append-nil, length-append}
use Rattle.std.proofs.lemmas.List.Elements.{All-nil, All-cons, All-head, All-tail, All-append}
use Rattle.std.proofs.lemmas.List.Sums.{sum_by-cons}
use Rattle.std.proofs.lemmas.Slice.Eq.{bytes_eq-Decides}
use Rattle.text_lines.specs.Lines.{cell, cells}
use Rattle.certificate_text.specs.At.{At}
use Rattle.certificate_text.specs.Numbers.{numbers_on, pair_on, count_on, parts}
use Rattle.certificate_text.specs.ReadText.{label_count, head, heads, linked}
use Rattle.certificate_text.specs.Text.{spaced, pair_line, head_of, links_line, named_line, IsSmall, HasSmallNumbers}
use Rattle.certificate_text.specs.Times.{read_times, read_over}
use Rattle.certificate_text.specs.declared.certificate.CertLabel.{CertLabel}
use Rattle.reading.proofs.Truth.{both}
use Rattle.certificate_text.proofs.LabelTexts.{IsSmallPair, FirstIsZero}
use Rattle.certificate_text.proofs.LinkTexts.{links_of}
use Rattle.certificate_text.proofs.WrittenNumbers.{Lacks, number_written, numbers_written, decimal_lacks, cells_lack, parts_written}
use Rattle.certificate_text.proofs.WrittenLines.{place, needed_written}
use Rattle.certificate_text.specs.declared.TheConstants.{MAX_LABELS, MAX_LINKS}

-- a text that holds no byte c, by trying each
pub lacks_by : (c : ℕ) (w : List ℕ) → list_all (λ b. not (eqb b c)) w ≡ true → Lacks c w
lacks_by c [] h = All-nil (λ (b : ℕ). eqb b c ≡ false)
lacks_by c (b ∷ w) h = let k = both (not (eqb b c)) _ h in All-cons (λ (b : ℕ). eqb b c ≡ false) b w (negated (eqb b c) k.0) (lacks_by c w k.1)
  where
    negated : (t : Bool) → not t ≡ true → t ≡ false
    negated true e = absurd cc
    negated false e = refl

-- `labels N`

count_words_written : (name : List ℕ) (n count : ℕ) → name ≡ codes "labels" → count ≤ MAX_LABELS → count_on n (name ∷ decimal count ∷ []) ≡ Ok count
unfolding count_on
count_words_written name n count e le = rw ((bytes_eq-Decides name (codes "labels")).1 e, number_written n count (omega (arith, le)), le-ltb MAX_LABELS count le) refl

pub count_written : (name rest : List ℕ) (n k count : ℕ) → name ≡ codes "labels" → Lacks 10 name → Lacks 32 name → count ≤ MAX_LABELS
    → label_count (place (named_line name (count ∷ []) ++ rest) n k) ≡ Ok (count, place rest (n + 1) k)
unfolding label_count
count_written name rest n k count e lines words le =
    let small : All IsSmall (count ∷ []) = All-cons IsSmall count [] (omega (arith, le)) (All-nil IsSmall) in
    let plain = All-append (λ (b : ℕ). eqb b 10 ≡ false) name (cells (count ∷ [])) lines (cells_lack (count ∷ []) small) in
    rw (needed_written (name ++ cells (count ∷ [])) rest n k plain, parts_written name (count ∷ []) words small, count_words_written name n count e le) refl

-- `PARENT CHOICE`

pair_parts : (x y : ℕ) → IsSmall x → IsSmall y → parts (decimal x ++ cell y) ≡ decimal x ∷ decimal y ∷ []
pair_parts x y a b =
    ap (λ t. parts (decimal x ++ t)) (sym (append-nil (cell y)))
    ∙ parts_written (decimal x) (y ∷ []) (decimal_lacks 32 x (omega arith) a) (All-cons IsSmall y [] b (All-nil IsSmall))

pair_written : (n x y : ℕ) → IsSmall x → IsSmall y → pair_on n (decimal x ∷ decimal y ∷ []) ≡ Ok (x, y)
unfolding pair_on
pair_written n x y a b = rw (number_written n x a, number_written n y b) refl

head_written : (p : ℕ × ℕ) (rest : List ℕ) (n k : ℕ) → IsSmallPair p → head (place (pair_line p ++ rest) n k) ≡ Ok (p, place rest (n + 1) k)
unfolding head
head_written p rest n k small =
    let last = All-cons (λ (b : ℕ). eqb b 10 ≡ false) 32 (decimal p.1) refl (decimal_lacks 10 p.1 (omega arith) small.1) in
    let plain = All-append (λ (b : ℕ). eqb b 10 ≡ false) (decimal p.0) (cell p.1) (decimal_lacks 10 p.0 (omega arith) small.0) last in
    rw (needed_written (decimal p.0 ++ cell p.1) rest n k plain, pair_parts p.0 p.1 small.0 small.1, pair_written n p.0 p.1 small.0 small.1) refl

times_step : (n : ℕ) (s t u : At) (p : ℕ × ℕ) (ps : List (ℕ × ℕ)) → head s ≡ Ok (p, t) → read_times head n t ≡ Ok (ps, u) → read_times head (suc n) s ≡ Ok (p ∷ ps, u)
unfolding read_times
times_step n s t u p ps e f = rw (e, f) refl

times_written : (ps : List (ℕ × ℕ)) (rest : List ℕ) (n k : ℕ) → All IsSmallPair ps
    → (m : ℕ) × (read_times head (length ps) (place (flat_map pair_line ps ++ rest) n k) ≡ Ok (ps, place rest m k))
unfolding read_times
times_written [] rest n k small = (n, refl)
times_written (p ∷ ps) rest n k small =
    let later = times_written ps rest (n + 1) k (All-tail IsSmallPair p ps small) in (
      later.0,
      ap (λ t. read_times head (length (p ∷ ps)) (place t n k)) (append_assoc (pair_line p) (flat_map pair_line ps) rest)
          ∙ times_step (length ps) (place (pair_line p ++ (flat_map pair_line ps ++ rest)) n k) (place (flat_map pair_line ps ++ rest) (n + 1) k) (place rest later.0 k) p ps
          (head_written p (flat_map pair_line ps ++ rest) n k (All-head IsSmallPair p ps small)) later.1,
    )

heads_step : (n : ℕ) (s u : At) (ps : List (ℕ × ℕ)) → read_times head n s ≡ Ok (ps, u) → heads (suc n) s ≡ Ok ((0, 0) ∷ ps, u)
unfolding heads
heads_step n s u ps e =
    let less : suc n - 1 ≡ n = omega arith in
    rw (ne_eqb (suc n) 0 (omega arith), less, e) refl

pub heads_written : (ps : List (ℕ × ℕ)) (rest : List ℕ) (n k : ℕ) → All IsSmallPair ps → FirstIsZero ps
    → (m : ℕ) × (heads (length ps) (place (flat_map pair_line (drop 1 ps) ++ rest) n k) ≡ Ok (ps, place rest m k))
unfolding heads
heads_written [] rest n k small first = (n, refl)
heads_written (p ∷ ps) rest n k small first =
    let later = times_written ps rest n k (All-tail IsSmallPair p ps small) in
    let zeros : ◌≡◌ {A = ℕ × ℕ} (0, 0) p = λ i. (sym first.0 i, sym first.1 i) in
    (later.0, heads_step (length ps) (place (flat_map pair_line ps ++ rest) n k) (place rest later.0 k) ps later.1 ∙ ap (λ q. Ok (q ∷ ps, place rest later.0 k)) zeros)

-- the links of a label

spaced_lacks : (vs : List ℕ) → All IsSmall vs → Lacks 10 (spaced vs)
spaced_lacks [] small = All-nil (λ (b : ℕ). eqb b 10 ≡ false)
spaced_lacks (v ∷ vs) small =
    All-append (λ (b : ℕ). eqb b 10 ≡ false) (decimal v) (cells vs) (decimal_lacks 10 v (omega arith) (All-head IsSmall v vs small)) (cells_lack vs (All-tail IsSmall v vs small))

spaced_written : (n : ℕ) (vs : List ℕ) → All IsSmall vs → numbers_on n (spaced vs) ≡ Ok vs
unfolding numbers_on
spaced_written n [] small = refl
spaced_written n (v ∷ vs) small =
    let v_small = All-head IsSmall v vs small in
    let some : 0 < length (decimal v) = decimal_nonempty v (omega (arith, v_small)) in
    let filled = ne_eqb (length (decimal v ++ cells vs)) 0 (omega (arith, some, length-append (decimal v) (cells vs))) in
    rw (filled, parts_written (decimal v) vs (decimal_lacks 32 v (omega arith) v_small) (All-tail IsSmall v vs small)) (numbers_written n (v ∷ vs) small)

linked_written : (label : CertLabel) (rest : List ℕ) (n k : ℕ) → All IsSmall label.links → k + length label.links ≤ MAX_LINKS
    → linked (head_of label) (place (links_line label ++ rest) n k) ≡ Ok (label, place rest (n + 1) (k + length label.links))
unfolding linked
linked_written label rest n k small le =
    rw (needed_written (spaced label.links) rest n k (spaced_lacks label.links small), spaced_written n label.links small, le-ltb MAX_LINKS (k + length label.links) le) refl

over_step : (p : ℕ × ℕ) (ps : List (ℕ × ℕ)) (s t u : At) (l : CertLabel) (ls : List CertLabel) → linked p s ≡ Ok (l, t) → read_over linked ps t ≡ Ok (ls, u) → read_over linked (p ∷ ps) s ≡ Ok (l ∷ ls, u)
unfolding read_over
over_step p ps s t u l ls e f = rw (e, f) refl

pub links_written : (ls : List CertLabel) (rest : List ℕ) (n k : ℕ) → All HasSmallNumbers ls → k + sum_by links_of ls ≤ MAX_LINKS
    → (m : ℕ) × (j : ℕ) × (read_over linked (map head_of ls) (place (flat_map links_line ls ++ rest) n k) ≡ Ok (ls, place rest m j))
unfolding read_over
links_written [] rest n k small le = (n, k, refl)
links_written (l ∷ ls) rest n k small le =
    let more : k + length l.links + sum_by links_of ls ≤ MAX_LINKS = omega (arith, le, sum_by-cons links_of l ls) in
    let one : k + length l.links ≤ MAX_LINKS = omega (arith, more) in
    let later = links_written ls rest (n + 1) (k + length l.links) (All-tail HasSmallNumbers l ls small) more in (
      later.0,
      later.1,
      ap (λ t. read_over linked (map head_of (l ∷ ls)) (place t n k)) (append_assoc (links_line l) (flat_map links_line ls) rest)
          ∙ over_step (head_of l) (map head_of ls) (place (links_line l ++ (flat_map links_line ls ++ rest)) n k) (place (flat_map links_line ls ++ rest) (n + 1) (k + length l.links)) (place rest later.0 later.1) l ls
          (linked_written l (flat_map links_line ls ++ rest) n k (All-head HasSmallNumbers l ls small).links one) later.2,
    )
