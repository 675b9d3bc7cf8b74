-- Bytes that are read as a certificate are its text, and it is within the limits.
use Rattle.std.proofs.Common.{◌≡◌, ℕ, ◌≤◌, true, List, [], ◌∷◌, ◌++◌, length, drop, map, subst, Ok, refl, sym, ap, ◌∙◌, arith, eqb, append_assoc}
use Rattle.std.specs.Prelude.{codes}
use Rattle.std.specs.List.{All, flat_map, sum_by}
use Rattle.std.proofs.lemmas.Bool.{eqb-true}
use Rattle.std.proofs.lemmas.List.{length-map}
use Rattle.certificate_text.specs.At.{At}
use Rattle.certificate_text.specs.Cursors.{fixed}
use Rattle.certificate_text.specs.ReadText.{label_count, heads, labels, named, answers, contents, ending, start, certificate_in}
use Rattle.certificate_text.specs.Text.{ended, head_of, head_line, links_line, named_line, label_lines, text, IsSmall, HasSmallNumbers, StartsAtZero, HasText}
use Rattle.certificate_text.specs.declared.certificate.CertLabel.{CertLabel}
use Rattle.certificate_text.specs.declared.certificate.Certificate.{Certificate}
use Rattle.certificate_text.specs.declared.fault.CertFault.{CertFault}
use Rattle.certificate_text.proofs.NumberLaws.{done_same, read_on, held}
use Rattle.certificate_text.proofs.LineTexts.{Passes, fixed_read, named_read}
use Rattle.certificate_text.proofs.LabelTexts.{AreHeads, count_read, heads_read}
use Rattle.certificate_text.proofs.LinkTexts.{Counts, links_read, small_all, starts, later_lines}
use Rattle.certificate_text.specs.declared.TheConstants.{MAX_LABELS, MAX_LINKS}

-- from one place to a later one stand all lines of these labels
pub record AreLabels (labels : List CertLabel) (from to : At) : Type 0 where
  pub bytes : from.rest ≡ label_lines labels ++ to.rest
  pub start : StartsAtZero labels
  pub few : length labels ≤ MAX_LABELS
  pub small : All HasSmallNumbers labels
  pub few_links : from.links ≡ 0 → sum_by (λ label. length label.links) labels ≤ MAX_LINKS

pieces : (a b c d r0 r1 r2 r3 r4 : List ℕ) → r0 ≡ a ++ r1 → r1 ≡ b ++ r2 → r2 ≡ c ++ r3 → r3 ≡ d ++ r4 → r0 ≡ (a ++ (b ++ (c ++ d))) ++ r4
pieces a b c d r0 r1 r2 r3 r4 p q r s =
    let cd : r2 ≡ (c ++ d) ++ r4 = r ∙ ap (λ t. c ++ t) s ∙ sym (append_assoc c d r4) in
    let bcd : r1 ≡ (b ++ (c ++ d)) ++ r4 = q ∙ ap (λ t. b ++ t) cd ∙ sym (append_assoc b (c ++ d) r4) in
    p ∙ ap (λ t. a ++ t) bcd ∙ sym (append_assoc a (b ++ (c ++ d)) r4)

labels_more : (n : ℕ) (ls : List CertLabel) (from a b c to : At) → Passes (named_line (codes "labels") (n ∷ [])) from a × (n ≤ MAX_LABELS) → AreHeads n (map head_of ls) a b
    → Passes (ended (codes "links")) b c → Counts ls c to → AreLabels ls from to
unfolding label_lines
labels_more n ls from a b c to p q r s =
    let len : n ≡ length ls = omega (arith, q.1, length-map ls head_of) in
    let first : from.rest ≡ named_line (codes "labels") (length ls ∷ []) ++ a.rest = p.0.bytes ∙ ap (λ m. named_line (codes "labels") (m ∷ []) ++ a.rest) len in
    let second : a.rest ≡ flat_map head_line (drop 1 ls) ++ b.rest = q.0.bytes ∙ ap (λ t. t ++ b.rest) (later_lines ls) in
    record {
      bytes = pieces (named_line (codes "labels") (length ls ∷ [])) (flat_map head_line (drop 1 ls)) (ended (codes "links")) (flat_map links_line ls) from.rest a.rest b.rest c.rest to.rest first second r.bytes s.bytes;
      start = starts ls q.3;
      few = omega (arith, p.1, len);
      small = small_all ls q.2 s.small;
      few_links = λ zero. omega (arith, s.links, s.few (omega (arith, zero, p.0.links, q.0.links, r.links)));
    }

labels_read : (from to : At) (ls : List CertLabel) → labels from ≡ Ok (ls, to) → AreLabels ls from to
unfolding labels
labels_read from to ls h =
    read_on (label_count from) _ (ls, to) (λ n e g.
    read_on (heads n.0 n.1) _ (ls, to) (λ hs f k.
    read_on (fixed (codes "links") hs.1) _ (ls, to) (λ l i j.
    let s = links_read hs.0 l.1 to ls j in
    labels_more n.0 ls from n.1 hs.1 l.1 to (count_read from n.1 n.0 e) (subst (λ ps. AreHeads n.0 ps n.1 hs.1) (sym s.1) (heads_read n.0 n.1 hs.1 hs.0 f)) (fixed_read (codes "links") hs.1 l.1 i) s.0) k) g) h

-- the finals and the goal links

abbrev pub AreAnswers : List ℕ → List ℕ → At → At → Type 0
AreAnswers fs gs from to = (from.rest ≡ named_line (codes "finals") fs ++ (named_line (codes "goals") gs ++ to.rest))
    × (length fs ≤ MAX_LABELS) × (length gs ≤ MAX_LABELS) × All IsSmall fs × All IsSmall gs

answers_more : (fs gs : List ℕ) (p : List ℕ × List ℕ) (from y z to : At) → Passes (named_line (codes "finals") fs) from y × (length fs ≤ MAX_LABELS) × All IsSmall fs
    → Passes (named_line (codes "goals") gs) y z × (length gs ≤ MAX_LABELS) × All IsSmall gs → ◌≡◌ {A = List ℕ × List ℕ} (fs, gs) p → z ≡ to → AreAnswers p.0 p.1 from to
answers_more fs gs p from y z to a b e f =
    let bytes : from.rest ≡ named_line (codes "finals") fs ++ (named_line (codes "goals") gs ++ z.rest) = a.0.bytes ∙ ap (λ t. named_line (codes "finals") fs ++ t) b.0.bytes in
    rw (← e, ← f) (bytes, a.1, b.1, a.2, b.2)

answers_read : (from to : At) (p : List ℕ × List ℕ) → answers from ≡ Ok (p, to) → AreAnswers p.0 p.1 from to
unfolding answers
answers_read from to p h =
    read_on (named (codes "finals") from) _ (p, to) (λ fs e g.
    read_on (named (codes "goals") fs.1) _ (p, to) (λ gs f k.
    let same = done_same {F = CertFault} ((fs.0, gs.0), gs.1) (p, to) k in
    answers_more fs.0 gs.0 p from fs.1 gs.1 to (named_read (codes "finals") from fs.1 fs.0 e) (named_read (codes "goals") fs.1 gs.1 gs.0 f) (ap (λ z. z.0) same) (ap (λ z. z.1) same)) g) h

-- the whole

contents_more : (ls : List CertLabel) (p : List ℕ × List ℕ) (cert : Certificate) (from y z to : At) → from.links ≡ 0 → AreLabels ls from y → AreAnswers p.0 p.1 y z
    → ◌≡◌ {A = Certificate} (record { labels = ls; finals = p.0; goal_links = p.1 }) cert → z ≡ to
    → (from.rest ≡ label_lines cert.labels ++ (named_line (codes "finals") cert.finals ++ (named_line (codes "goals") cert.goal_links ++ to.rest))) × HasText cert
contents_more ls p cert from y z to none a b e f =
    let bytes : from.rest ≡ label_lines ls ++ (named_line (codes "finals") p.0 ++ (named_line (codes "goals") p.1 ++ z.rest)) = a.bytes ∙ ap (λ t. label_lines ls ++ t) b.0 in
    rw (← e, ← f) (
      bytes,
      record {
        start = a.start;
        few_labels = a.few;
        few_finals = b.1;
        few_goal_links = b.2;
        few_links = a.few_links none;
        small_labels = a.small;
        small_finals = b.3;
        small_goal_links = b.4;
      },
    )

contents_read : (from to : At) (cert : Certificate) → from.links ≡ 0 → contents from ≡ Ok (cert, to)
    → (from.rest ≡ label_lines cert.labels ++ (named_line (codes "finals") cert.finals ++ (named_line (codes "goals") cert.goal_links ++ to.rest))) × HasText cert
unfolding contents
contents_read from to cert none h =
    read_on (labels from) _ (cert, to) (λ ls e g.
    read_on (answers ls.1) _ (cert, to) (λ found f k.
    let same = done_same {F = CertFault} (record { labels = ls.0; finals = found.0.0; goal_links = found.0.1 }, found.1) (cert, to) k in
    contents_more ls.0 found.0 cert from ls.1 found.1 to none (labels_read from ls.1 ls.0 e) (answers_read ls.1 found.1 found.0 f) (ap (λ z. z.0) same) (ap (λ z. z.1) same)) g) h

no_bytes : (bytes : List ℕ) → eqb (length bytes) 0 ≡ true → bytes ≡ []
no_bytes [] h = refl
no_bytes (b ∷ bytes) h = absurd (omega (arith, eqb-true (length (b ∷ bytes)) 0 h))

ending_more : (from y : At) → Passes (ended (codes "end")) from y → y.rest ≡ [] → from.rest ≡ ended (codes "end")
ending_more from y p e = p.bytes ∙ ap (λ t. ended (codes "end") ++ t) e

ending_read : (from : At) (to : Unit {0} × At) → ending from ≡ Ok to → from.rest ≡ ended (codes "end")
unfolding ending
ending_read from to h =
    read_on (fixed (codes "end") from) _ to (λ l e g.
    let k = held (eqb (length l.1.rest) 0) _ (Ok l) to g in
    ending_more from l.1 (fixed_read (codes "end") from l.1 e) (no_bytes l.1.rest k.0)) h

text_more : (bytes : List ℕ) (c cert : Certificate) (y z : At) → Passes (ended (codes "rulebook certificate 1")) (start bytes) y
    → (y.rest ≡ label_lines c.labels ++ (named_line (codes "finals") c.finals ++ (named_line (codes "goals") c.goal_links ++ z.rest))) × HasText c
    → z.rest ≡ ended (codes "end") → c ≡ cert → HasText cert × (text cert ≡ bytes)
unfolding text
text_more bytes c cert y z p q r e =
    let tail : y.rest ≡ label_lines c.labels ++ (named_line (codes "finals") c.finals ++ (named_line (codes "goals") c.goal_links ++ ended (codes "end"))) =
    q.0 ∙ ap (λ t. label_lines c.labels ++ (named_line (codes "finals") c.finals ++ (named_line (codes "goals") c.goal_links ++ t))) r in
    rw (← e) (q.1, sym (p.bytes ∙ ap (λ t. ended (codes "rulebook certificate 1") ++ t) tail))

pub certificate_read : (bytes : List ℕ) (cert : Certificate) → certificate_in bytes ≡ Ok cert → HasText cert × (text cert ≡ bytes)
unfolding certificate_in
certificate_read bytes cert h =
    read_on (fixed (codes "rulebook certificate 1") (start bytes)) _ cert (λ first e g.
    read_on (contents first.1) _ cert (λ c f k.
    read_on (ending c.1) _ cert (λ last i j.
    let p = fixed_read (codes "rulebook certificate 1") (start bytes) first.1 e in
    text_more bytes c.0 cert first.1 c.1 p (contents_read first.1 c.1 c.0 p.links f) (ending_read c.1 last i) (done_same {F = CertFault} c.0 cert j)) k) g) h
