-- The lines of labels that are read are those that are written of the labels.
use Rattle.std.proofs.Common.{◌≡◌, ℕ, zero, suc, ◌-◌, ◌<◌, ◌≤◌, Bool, true, false, cond, List, [], ◌∷◌, ◌++◌, length, drop, map, Ok, refl, ap, ◌∙◌, arith, eqb}
use Rattle.std.specs.Prelude.{nat_lt, codes}
use Rattle.std.specs.List.{All, flat_map}
use Rattle.std.specs.Str.{bytes_eq}
use Rattle.std.specs.Fmt.{decimal}
use Rattle.std.proofs.lemmas.Bool.{ltb-false, eqb-true}
use Rattle.std.proofs.lemmas.Slice.Eq.{bytes_eq-Decides}
use Rattle.std.proofs.lemmas.List.{append-nil}
use Rattle.std.proofs.lemmas.List.Elements.{All-nil, All-cons}
use Rattle.text_lines.specs.Lines.{cell, cells}
use Rattle.certificate_text.specs.At.{At}
use Rattle.certificate_text.specs.Cursors.{needed}
use Rattle.certificate_text.specs.Numbers.{number_on, pair_on, count_on, few_labels, parts}
use Rattle.certificate_text.specs.ReadText.{label_count, head, heads}
use Rattle.certificate_text.specs.Text.{ended, pair_line, named_line, IsSmall}
use Rattle.certificate_text.specs.Times.{read_times, after_front}
use Rattle.certificate_text.specs.declared.fault.CertFault.{CertFault}
use Rattle.certificate_text.proofs.NumberLaws.{done_same, read_on, passed, held, number_read, parts_joined}
use Rattle.certificate_text.proofs.LineTexts.{Passes, passes_then, renamed_to, needed_read}
use Rattle.certificate_text.specs.declared.TheConstants.{MAX_LABELS, PAST_NUMBERS}

-- `labels N`

count_more : (word count : List ℕ) (x n : ℕ) → word ≡ codes "labels" → (count ≡ decimal x) × (x < PAST_NUMBERS) → few_labels x ≡ Ok n
    → (word ∷ count ∷ [] ≡ codes "labels" ∷ map decimal (n ∷ [])) × (n ≤ MAX_LABELS)
count_more word count x n e p h =
    let q = passed (nat_lt MAX_LABELS x) _ (Ok x) n h in
    let same = done_same {F = CertFault} x n q.1 in
    let le : n ≤ MAX_LABELS = omega (arith, ltb-false MAX_LABELS x q.0, same) in
    (rw (e, p.0, same) refl, le)

count_words : (n : ℕ) (words : List (List ℕ)) (count : ℕ) → count_on n words ≡ Ok count
    → (words ≡ codes "labels" ∷ map decimal (count ∷ [])) × (count ≤ MAX_LABELS)
unfolding count_on
count_words n [] count h = absurd cc
count_words n (a ∷ []) count h = absurd cc
count_words n (a ∷ b ∷ []) count h =
    let k = held (bytes_eq a (codes "labels")) _ _ count h in
    read_on (number_on n b) few_labels count (λ x e g. count_more a b x count ((bytes_eq-Decides a (codes "labels")).0 k.0) (number_read n b x e) g) k.1
count_words n (a ∷ b ∷ c ∷ ws) count h = absurd cc

count_line : (line : List ℕ) (x n : ℕ) (from y to : At) → line ≡ codes "labels" ++ cells (x ∷ []) → x ≡ n → y ≡ to → Passes (ended line) from y → x ≤ MAX_LABELS
    → Passes (named_line (codes "labels") (n ∷ [])) from to × (n ≤ MAX_LABELS)
count_line line x n from y to l e f p le =
    let few : n ≤ MAX_LABELS = omega (arith, le, e) in
    (renamed_to line (codes "labels") (x ∷ []) (n ∷ []) from y to l (ap (λ z. z ∷ []) e) f p, few)

pub count_read : (from to : At) (n : ℕ) → label_count from ≡ Ok (n, to) → Passes (named_line (codes "labels") (n ∷ [])) from to × (n ≤ MAX_LABELS)
unfolding label_count
count_read from to n h =
    read_on (needed from) _ (n, to) (λ l e g.
    read_on (count_on from.number (parts l.0)) _ (n, to) (λ x f k.
    let same = done_same {F = CertFault} (x, l.1) (n, to) k in
    let w = count_words from.number (parts l.0) x f in
    count_line l.0 x n from l.1 to (parts_joined l.0 (codes "labels") (x ∷ []) w.0) (ap (λ z. z.0) same) (ap (λ z. z.1) same) (needed_read from l.0 l.1 e) w.1) g) h

-- `PARENT CHOICE`

abbrev pub IsSmallPair : ℕ × ℕ → Type 0
IsSmallPair p = IsSmall p.0 × IsSmall p.1

pair_more : (a b : List ℕ) (x y : ℕ) (p : ℕ × ℕ) → (a ≡ decimal x) × (x < PAST_NUMBERS) → (b ≡ decimal y) × (y < PAST_NUMBERS) → (x, y) ≡ p
    → (a ∷ b ∷ [] ≡ decimal p.0 ∷ map decimal (p.1 ∷ [])) × IsSmallPair p
pair_more a b x y p q r e = rw (← e, q.0, r.0) (refl, (q.1, r.1))

pair_words : (n : ℕ) (words : List (List ℕ)) (p : ℕ × ℕ) → pair_on n words ≡ Ok p → (words ≡ decimal p.0 ∷ map decimal (p.1 ∷ [])) × IsSmallPair p
unfolding pair_on
pair_words n [] p h = absurd cc
pair_words n (a ∷ []) p h = absurd cc
pair_words n (a ∷ b ∷ []) p h =
    read_on (number_on n a) _ p (λ x e g. read_on (number_on n b) _ p (λ y f k.
    pair_more a b x y p (number_read n a x e) (number_read n b y f) (done_same {F = CertFault} (x, y) p k)) g) h
pair_words n (a ∷ b ∷ c ∷ ws) p h = absurd cc

pair_at : (line : List ℕ) (q p : ℕ × ℕ) (from y to : At) → line ≡ decimal q.0 ++ (cell q.1 ++ []) → q ≡ p → y ≡ to → Passes (ended line) from y → IsSmallPair q
    → Passes (pair_line p) from to × IsSmallPair p
pair_at line q p from y to l e f r small =
    let plain : line ≡ decimal q.0 ++ cell q.1 = l ∙ ap (λ t. decimal q.0 ++ t) (append-nil (cell q.1)) in
    rw (← e, ← f, ← plain) (r, small)

pub head_read : (from to : At) (p : ℕ × ℕ) → head from ≡ Ok (p, to) → Passes (pair_line p) from to × IsSmallPair p
unfolding head
head_read from to p h =
    read_on (needed from) _ (p, to) (λ l e g.
    read_on (pair_on from.number (parts l.0)) _ (p, to) (λ q f k.
    let same = done_same {F = CertFault} (q, l.1) (p, to) k in
    let w = pair_words from.number (parts l.0) q f in
    pair_at l.0 q p from l.1 to (parts_joined l.0 (decimal q.0) (q.1 ∷ []) w.0) (ap (λ z. z.0) same) (ap (λ z. z.1) same) (needed_read from l.0 l.1 e) w.1) g) h

nothing : (from : At) → Passes [] from from
nothing from = record { bytes = refl; links = refl }

times_more : (p : ℕ × ℕ) (ps hs : List (ℕ × ℕ)) (n : ℕ) (x y z to : At) → Passes (pair_line p) x y × IsSmallPair p → Passes (flat_map pair_line ps) y z × (length ps ≡ n) × All IsSmallPair ps
    → p ∷ ps ≡ hs → z ≡ to → Passes (flat_map pair_line hs) x to × (length hs ≡ suc n) × All IsSmallPair hs
times_more p ps hs n x y z to a b e f =
    let len : length (p ∷ ps) ≡ suc n = omega (arith, b.1) in
    rw (← e, ← f) (passes_then (pair_line p) (flat_map pair_line ps) x y z a.0 b.0, len, All-cons IsSmallPair p ps a.1 b.2)

pub times_read : (n : ℕ) (from to : At) (hs : List (ℕ × ℕ)) → read_times head n from ≡ Ok (hs, to)
    → Passes (flat_map pair_line hs) from to × (length hs ≡ n) × All IsSmallPair hs
unfolding read_times
times_read zero from to hs h =
    let same = done_same {F = CertFault} ([], from) (hs, to) h in
    rw (← ap (λ z. z.0) same, ← ap (λ z. z.1) same) (nothing from, refl, All-nil IsSmallPair)
times_read (suc n) from to hs h =
    read_on (head from) _ (hs, to) (λ p e g. read_on (read_times head n p.1) _ (hs, to) (λ ps f k.
    let same = done_same {F = CertFault} (p.0 ∷ ps.0, ps.1) (hs, to) k in
    times_more p.0 ps.0 hs n from p.1 ps.1 to (head_read from p.1 p.0 e) (times_read n p.1 ps.1 ps.0 f) (ap (λ z. z.0) same) (ap (λ z. z.1) same)) g) h

-- the first of the pairs, if any, is that of label 0
abbrev pub FirstIsZero : List (ℕ × ℕ) → Type 0
FirstIsZero [] = Unit {0}
FirstIsZero (p ∷ _) = (p.0 ≡ 0) × (p.1 ≡ 0)

abbrev pub AreHeads : ℕ → List (ℕ × ℕ) → At → At → Type 0
AreHeads n hs from to = Passes (flat_map pair_line (drop 1 hs)) from to × (length hs ≡ n) × All IsSmallPair hs × FirstIsZero hs

heads_none : (n : ℕ) (hs : List (ℕ × ℕ)) (from to : At) → n ≡ 0 → ◌≡◌ {A = List (ℕ × ℕ) × At} ([], from) (hs, to) → AreHeads n hs from to
heads_none n hs from to e same = rw (← ap (λ z. z.0) same, ← ap (λ z. z.1) same, e) (nothing from, refl, All-nil IsSmallPair, tt)

heads_some : (n : ℕ) (ps hs : List (ℕ × ℕ)) (from y to : At) → 0 < n → Passes (flat_map pair_line ps) from y × (length ps ≡ n - 1) × All IsSmallPair ps → (0, 0) ∷ ps ≡ hs → y ≡ to → AreHeads n hs from to
heads_some n ps hs from y to lt r e f =
    let len : length ((0, 0) ∷ ps) ≡ n = omega (arith, r.1) in
    let zeros : IsSmallPair (0, 0) = (omega arith, omega arith) in
    rw (← e, ← f) (r.0, len, All-cons IsSmallPair (0, 0) ps zeros r.2, (refl, refl))

heads_by : (b : Bool) (n : ℕ) (from to : At) (hs : List (ℕ × ℕ)) → eqb n 0 ≡ b → cond b (Ok ([], from)) (after_front ((0, 0) ∷ []) (read_times head (n - 1) from)) ≡ Ok (hs, to) → AreHeads n hs from to
heads_by true n from to hs e h = heads_none n hs from to (eqb-true n 0 e) (done_same {F = CertFault} ([], from) (hs, to) h)
heads_by false n from to hs e h =
    let some : 0 < n = positive n e in
    read_on (read_times head (n - 1) from) _ (hs, to) (λ ps f k.
    let same = done_same {F = CertFault} ((0, 0) ∷ ps.0, ps.1) (hs, to) k in
    heads_some n ps.0 hs from ps.1 to some (times_read (n - 1) from ps.1 ps.0 f) (ap (λ z. z.0) same) (ap (λ z. z.1) same)) h
  where
    positive : (n : ℕ) → eqb n 0 ≡ false → 0 < n
    positive zero e = absurd cc
    positive (suc n) e = omega arith

pub heads_read : (n : ℕ) (from to : At) (hs : List (ℕ × ℕ)) → heads n from ≡ Ok (hs, to) → AreHeads n hs from to
unfolding heads
heads_read n from to hs h = heads_by (eqb n 0) n from to hs refl h
