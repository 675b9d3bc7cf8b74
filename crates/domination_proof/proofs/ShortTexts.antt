-- How long the text of a certificate is at most, where its numbers are below the limit of labels.
use Rattle.std.proofs.Common.{◌≡◌, ℕ, ◌+◌, ◌*◌, ◌≤◌, List, [], ◌∷◌, ◌++◌, length, drop, codes, arith}
use Rattle.std.specs.Prelude.{All}
use Rattle.std.specs.Fmt.{decimal}
use Rattle.std.specs.List.{flat_map, sum_by}
use Rattle.std.proofs.Math.ListN.{length-append}
use Rattle.std.proofs.lemmas.Fmt.{length-decimal-le}
use Rattle.std.proofs.lemmas.List.Concat.{length-flat_map}
use Rattle.std.proofs.lemmas.List.Elements.{All-tail, All-weaker}
use Rattle.std.proofs.lemmas.List.Sums.{sum_by-cons, sum_by-le}
use Rattle.text_lines.specs.Lines.{cell, cells}
use Rattle.certificate_text.specs.declared.certificate.CertLabel.{CertLabel}
use Rattle.certificate_text.specs.declared.certificate.Certificate.{Certificate}
use Rattle.certificate_text.specs.Text.{text, label_lines, ended, spaced, head_line, links_line, named_line, HasText}
use Rattle.certificate_text.specs.declared.TheConstants.{MAX_LABELS}
use Rattle.domination_proof.specs.declared.laws.TheConstants.{MAX_TEXT}
use Rattle.domination_proof.proofs.HasTexts.{IsLow, HasLowNumbers}

decimal_short : (n : ℕ) → IsLow n → length (decimal n) ≤ 5
decimal_short n low = length-decimal-le 5 n (omega arith) (omega (arith, low)) (omega (arith, low))

cells_short : (ns : List ℕ) → All IsLow ns → length (cells ns) ≤ 6 * length ns
cells_short [] low = omega arith
cells_short (n ∷ ns) low =
    let digits = decimal_short n (low 0 n (omega arith)) in
    let rest = cells_short ns (All-tail IsLow n ns low) in
    omega (arith, digits, rest, length-append (cell n) (cells ns))

ended_length : (line : List ℕ) → length (ended line) ≡ length line + 1
ended_length line = length-append line (10 ∷ [])

spaced_short : (ns : List ℕ) → All IsLow ns → length (spaced ns) ≤ 6 * length ns
spaced_short [] low = omega arith
spaced_short (n ∷ ns) low =
    let digits = decimal_short n (low 0 n (omega arith)) in
    let rest = cells_short ns (All-tail IsLow n ns low) in
    omega (arith, digits, rest, length-append (decimal n) (cells ns))

head_short : (label : CertLabel) → HasLowNumbers label → length (head_line label) ≤ 9
head_short label low =
    let parent = decimal_short label.parent low.parent in
    let choice = length-decimal-le 2 label.choice (omega arith) (omega (arith, low.choice)) (omega (arith, low.choice)) in
    omega (arith, parent, choice, length-append (decimal label.parent) (cell label.choice), ended_length (decimal label.parent ++ cell label.choice))

links_short : (labels : List CertLabel) → All HasLowNumbers labels → length (flat_map links_line labels) ≤ length labels + 6 * sum_by (λ (label : CertLabel). length label.links) labels
links_short [] low = omega arith
links_short (l ∷ ls) low =
    let first = spaced_short l.links (low 0 l (omega arith)).links in
    let rest = links_short ls (All-tail HasLowNumbers l ls low) in
    let count : sum_by (λ (label : CertLabel). length label.links) (l ∷ ls) ≡ length l.links + sum_by (λ (label : CertLabel). length label.links) ls = sum_by-cons (λ (label : CertLabel). length label.links) l ls in
    omega (arith, count, first, rest, ended_length (spaced l.links), length-append (links_line l) (flat_map links_line ls))

heads_short : (labels : List CertLabel) → All HasLowNumbers labels → length (flat_map head_line labels) ≤ length labels * 9
heads_short labels low =
    let each = sum_by-le (λ (label : CertLabel). length (head_line label)) 9 labels (All-weaker HasLowNumbers (λ label. length (head_line label) ≤ 9) head_short labels low) in
    omega (arith, each, length-flat_map head_line labels)

later_heads_short : (labels : List CertLabel) → All HasLowNumbers labels → length (flat_map head_line (drop 1 labels)) ≤ length labels * 9
later_heads_short [] low = omega arith
later_heads_short (l ∷ ls) low = omega (arith, heads_short ls (All-tail HasLowNumbers l ls low))

named_length : (name numbers : List ℕ) → length (named_line name numbers) ≡ length name + length (cells numbers) + 1
named_length name numbers = omega (arith, ended_length (name ++ cells numbers), length-append name (cells numbers))

-- the line that says how many labels there are
count_short : (n : ℕ) → n ≤ MAX_LABELS → length (named_line (codes "labels") (n ∷ [])) ≤ 13
count_short n few =
    let digits = length-decimal-le 5 n (omega arith) (omega (arith, few)) (omega (arith, few)) in
    omega (arith, digits, named_length (codes "labels") (n ∷ []), length-append (cell n) [])

labels_short : (labels : List CertLabel) → All HasLowNumbers labels → length labels ≤ MAX_LABELS
    → length (label_lines labels) ≤ 19 + 10 * length labels + 6 * sum_by (λ (label : CertLabel). length label.links) labels
unfolding label_lines
labels_short labels low few =
    let heads = flat_map head_line (drop 1 labels) in
    let links = flat_map links_line labels in
    let count = named_line (codes "labels") (length labels ∷ []) in
    omega (
      arith,
      count_short (length labels) few,
      later_heads_short labels low,
      links_short labels low,
      length-append count (heads ++ (ended (codes "links") ++ links)),
      length-append heads (ended (codes "links") ++ links),
      length-append (ended (codes "links")) links,
    )

numbers_short : (name numbers : List ℕ) → All IsLow numbers → length (named_line name numbers) ≤ length name + 1 + 6 * length numbers
numbers_short name numbers low = omega (arith, named_length name numbers, cells_short numbers low)

-- a certificate's text, by how many numbers it has
text_length : (cert : Certificate) → HasText cert → All HasLowNumbers cert.labels → All IsLow cert.finals → All IsLow cert.goal_links
    → length (text cert) ≤ 59 + 10 * length cert.labels + 6 * sum_by (λ (label : CertLabel). length label.links) cert.labels + 6 * length cert.finals + 6 * length cert.goal_links
unfolding text
text_length cert has labels finals goals =
    let first = ended (codes "rulebook certificate 1") in
    let f = named_line (codes "finals") cert.finals in
    let g = named_line (codes "goals") cert.goal_links in
    let end = ended (codes "end") in
    omega (
      arith,
      labels_short cert.labels labels has.few_labels,
      numbers_short (codes "finals") cert.finals finals,
      numbers_short (codes "goals") cert.goal_links goals,
      length-append first (label_lines cert.labels ++ (f ++ (g ++ end))),
      length-append (label_lines cert.labels) (f ++ (g ++ end)),
      length-append f (g ++ end),
      length-append g end,
    )

pub text_short : (cert : Certificate) → HasText cert → All HasLowNumbers cert.labels → All IsLow cert.finals → All IsLow cert.goal_links → length (text cert) ≤ MAX_TEXT
text_short cert has labels finals goals =
    omega (arith, text_length cert has labels finals goals, has.few_labels, has.few_links, has.few_finals, has.few_goal_links)
