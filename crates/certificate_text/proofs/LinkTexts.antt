-- The lines of links that are read are those that are written of the labels.
use Rattle.std.proofs.Common.{◌≡◌, ℕ, ◌+◌, ◌≤◌, Bool, true, false, cond, List, [], ◌∷◌, ◌++◌, length, drop, map, Ok, refl, sym, ap, ◌∙◌, arith, eqb, append_assoc}
use Rattle.std.specs.Prelude.{nat_lt}
use Rattle.std.specs.List.{All, flat_map, sum_by}
use Rattle.std.specs.Fmt.{decimal}
use Rattle.std.proofs.lemmas.Bool.{ltb-false, eqb-true}
use Rattle.std.proofs.lemmas.List.Elements.{All-nil, All-cons, All-head, All-tail}
use Rattle.std.proofs.lemmas.List.Sums.{sum_by-cons}
use Rattle.std.proofs.lemmas.List.Splits.{length-slice_split}
use Rattle.reading.specs.Reading.{read_each}
use Rattle.certificate_text.specs.At.{At}
use Rattle.certificate_text.specs.Cursors.{needed}
use Rattle.certificate_text.specs.Numbers.{number_on, numbers_on, parts, is_space}
use Rattle.certificate_text.specs.ReadText.{linked, labels}
use Rattle.certificate_text.specs.Text.{ended, spaced, pair_line, head_of, head_line, links_line, IsSmall, HasSmallNumbers, StartsAtZero}
use Rattle.certificate_text.specs.Times.{read_over}
use Rattle.certificate_text.specs.declared.certificate.CertLabel.{CertLabel}
use Rattle.certificate_text.specs.declared.fault.CertFault.{CertFault}
use Rattle.certificate_text.proofs.NumberLaws.{done_same, read_on, passed, numbers_read, parts_joined}
use Rattle.certificate_text.proofs.LineTexts.{Passes, needed_read}
use Rattle.certificate_text.proofs.LabelTexts.{IsSmallPair, FirstIsZero}
use Rattle.certificate_text.specs.declared.TheConstants.{MAX_LINKS}

-- a line of numbers, or of nothing

spaced_some : (line : List ℕ) (ns : List ℕ) → parts line ≡ map decimal ns → line ≡ spaced ns
spaced_some line [] h = absurd (omega (arith, length-slice_split is_space line, ap length h))
spaced_some line (n ∷ ns) h = parts_joined line (decimal n) ns h

numbers_by : (b : Bool) (n : ℕ) (line ns : List ℕ) → eqb (length line) 0 ≡ b → cond b (Ok []) (read_each (number_on n) (parts line)) ≡ Ok ns → (line ≡ spaced ns) × All IsSmall ns
numbers_by true n [] ns e h = rw (← done_same {F = CertFault} [] ns h) (refl, All-nil IsSmall)
numbers_by true n (c ∷ cs) ns e h = absurd (omega (arith, eqb-true (length (c ∷ cs)) 0 e))
numbers_by false n line ns e h = let k = numbers_read n (parts line) ns h in (spaced_some line ns k.0, k.1)

pub spaced_read : (n : ℕ) (line ns : List ℕ) → numbers_on n line ≡ Ok ns → (line ≡ spaced ns) × All IsSmall ns
unfolding numbers_on
spaced_read n line ns h = numbers_by (eqb (length line) 0) n line ns refl h

-- from one place to a later one stand the lines of these labels' links, which were counted
pub record Counts (labels : List CertLabel) (from to : At) : Type 0 where
  pub bytes : from.rest ≡ flat_map links_line labels ++ to.rest
  pub links : to.links ≡ from.links + sum_by (λ label. length label.links) labels
  pub few : from.links ≤ MAX_LINKS → to.links ≤ MAX_LINKS
  pub small : All (λ label. All IsSmall label.links) labels

abbrev pub links_of : CertLabel → ℕ
links_of label = length label.links

counts_none : (from : At) → Counts [] from from
counts_none from = record { bytes = refl; links = omega arith; few = λ le. le; small = All-nil (λ (l : CertLabel). All IsSmall l.links) }

counts_one : (p : ℕ × ℕ) (line ns : List ℕ) (label : CertLabel) (from y to : At) → line ≡ spaced ns → All IsSmall ns → Passes (ended line) from y → y.links + length ns ≤ MAX_LINKS
    → ◌≡◌ {A = CertLabel × At} (record { parent = p.0; choice = p.1; links = ns }, record y { links = y.links + length ns }) (label, to)
    → (from.rest ≡ links_line label ++ to.rest) × (to.links ≡ from.links + length label.links) × (to.links ≤ MAX_LINKS) × (head_of label ≡ p) × All IsSmall label.links
counts_one p line ns label from y to l small r le same =
    let sum : y.links + length ns ≡ from.links + length ns = omega (arith, r.links) in
    let text : from.rest ≡ ended (spaced ns) ++ y.rest = r.bytes ∙ ap (λ t. ended t ++ y.rest) l in
    rw (← ap (λ z. z.0) same, ← ap (λ z. z.1) same) (text, sum, le, refl, small)

linked_read : (p : ℕ × ℕ) (from to : At) (label : CertLabel) → linked p from ≡ Ok (label, to)
    → (from.rest ≡ links_line label ++ to.rest) × (to.links ≡ from.links + length label.links) × (to.links ≤ MAX_LINKS) × (head_of label ≡ p) × All IsSmall label.links
unfolding linked
linked_read p from to label h =
    read_on (needed from) _ (label, to) (λ l e g.
    read_on (numbers_on from.number l.0) _ (label, to) (λ ns f k.
    let q = passed (nat_lt MAX_LINKS (l.1.links + length ns)) _ _ (label, to) k in
    let w = spaced_read from.number l.0 ns f in
    counts_one p l.0 ns label from l.1 to w.0 w.1 (needed_read from l.0 l.1 e) (ltb-false MAX_LINKS (l.1.links + length ns) q.0) (done_same {F = CertFault} _ (label, to) q.1)) g) h

counts_more : (p : ℕ × ℕ) (ps : List (ℕ × ℕ)) (label : CertLabel) (ls labels : List CertLabel) (from y z to : At)
    → (from.rest ≡ links_line label ++ y.rest) × (y.links ≡ from.links + length label.links) × (y.links ≤ MAX_LINKS) × (head_of label ≡ p) × All IsSmall label.links
    → Counts ls y z × (map head_of ls ≡ ps) → label ∷ ls ≡ labels → z ≡ to → Counts labels from to × (map head_of labels ≡ p ∷ ps)
counts_more p ps label ls labels from y z to a b e f = rw (← e, ← f) (
  record {
    bytes = a.0 ∙ ap (λ t. links_line label ++ t) b.0.bytes ∙ sym (append_assoc (links_line label) (flat_map links_line ls) z.rest);
    links = omega (arith, a.1, b.0.links, sum_by-cons links_of label ls);
    few = λ _. b.0.few a.2;
    small = All-cons (λ (l : CertLabel). All IsSmall l.links) label ls a.4 b.0.small;
  },
  rw (a.3, b.1) refl,
)

pub links_read : (ps : List (ℕ × ℕ)) (from to : At) (labels : List CertLabel) → read_over linked ps from ≡ Ok (labels, to)
    → Counts labels from to × (map head_of labels ≡ ps)
unfolding read_over
links_read [] from to labels h =
    let same = done_same {F = CertFault} ([], from) (labels, to) h in
    rw (← ap (λ z. z.0) same, ← ap (λ z. z.1) same) (counts_none from, refl)
links_read (p ∷ ps) from to labels h =
    read_on (linked p from) _ (labels, to) (λ l e g. read_on (read_over linked ps l.1) _ (labels, to) (λ ls f k.
    let same = done_same {F = CertFault} (l.0 ∷ ls.0, ls.1) (labels, to) k in
    counts_more p ps l.0 ls.0 labels from l.1 ls.1 to (linked_read p from l.1 l.0 e) (links_read ps l.1 ls.1 ls.0 f) (ap (λ z. z.0) same) (ap (λ z. z.1) same)) g) h

-- all lines of labels

pub small_all : (labels : List CertLabel) → All IsSmallPair (map head_of labels) → All (λ label. All IsSmall label.links) labels → All HasSmallNumbers labels
small_all [] h k = All-nil HasSmallNumbers
small_all (l ∷ ls) h k =
    let p = All-head IsSmallPair (head_of l) (map head_of ls) h in
    All-cons HasSmallNumbers l ls (record { parent = p.0; choice = p.1; links = All-head (λ (l : CertLabel). All IsSmall l.links) l ls k })
    (small_all ls (All-tail IsSmallPair (head_of l) (map head_of ls) h) (All-tail (λ (l : CertLabel). All IsSmall l.links) l ls k))

pub starts : (labels : List CertLabel) → FirstIsZero (map head_of labels) → StartsAtZero labels
starts [] h = tt
starts (l ∷ ls) h = h

pair_lines : (labels : List CertLabel) → flat_map pair_line (map head_of labels) ≡ flat_map head_line labels
pair_lines [] = refl
pair_lines (l ∷ ls) = ap (λ t. head_line l ++ t) (pair_lines ls)

pub later_lines : (labels : List CertLabel) → flat_map pair_line (drop 1 (map head_of labels)) ≡ flat_map head_line (drop 1 labels)
later_lines [] = refl
later_lines (l ∷ ls) = pair_lines ls
