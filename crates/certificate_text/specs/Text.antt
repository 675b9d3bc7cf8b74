-- The text of a certificate, and which certificates have one. This project's own text.
use Rattle.std.specs.Prelude.{◌≡◌, ◌<◌, ◌≤◌, ℕ, List, [], ◌∷◌, ◌++◌, length, drop, All, codes}
use Rattle.std.specs.List.{flat_map, sum_by}
use Rattle.std.specs.Fmt.{decimal}
use Rattle.reading.specs.Bytes.{line_feed}
use Rattle.text_lines.specs.Lines.{cell, cells}
use Rattle.certificate_text.specs.declared.certificate.CertLabel.{CertLabel}
use Rattle.certificate_text.specs.declared.certificate.Certificate.{Certificate}
use Rattle.certificate_text.specs.declared.TheConstants.{MAX_LABELS, MAX_LINKS, PAST_NUMBERS}

-- a line and its line feed
abbrev pub ended : List ℕ → List ℕ
ended line = line ++ line_feed ∷ []

-- numbers that stand one space apart
abbrev pub spaced : List ℕ → List ℕ
spaced [] = []
spaced (n ∷ ns) = decimal n ++ cells ns

-- `PARENT CHOICE`
abbrev pub pair_line : ℕ × ℕ → List ℕ
pair_line p = ended (decimal p.0 ++ cell p.1)

abbrev pub head_of : CertLabel → ℕ × ℕ
head_of label = (label.parent, label.choice)

abbrev pub head_line : CertLabel → List ℕ
head_line label = pair_line (head_of label)

abbrev pub links_line : CertLabel → List ℕ
links_line label = ended (spaced label.links)

-- a word, and each number behind a space
abbrev pub named_line : List ℕ → List ℕ → List ℕ
named_line name numbers = ended (name ++ cells numbers)

-- the lines of the labels; label 0 has no line of its parent and choice
unfoldable pub label_lines : List CertLabel → List ℕ
label_lines labels =
    named_line (codes "labels") (length labels ∷ []) ++ (flat_map head_line (drop 1 labels)
    ++ (ended (codes "links") ++ flat_map links_line labels))

-- the text of a certificate, line by line
unfoldable pub text : Certificate → List ℕ
text cert =
    ended (codes "rulebook certificate 1") ++ (label_lines cert.labels
    ++ (named_line (codes "finals") cert.finals ++
    (named_line (codes "goals") cert.goal_links ++ ended (codes "end"))))

abbrev pub IsSmall : ℕ → Type 0
IsSmall n = n < PAST_NUMBERS

pub record HasSmallNumbers (label : CertLabel) : Type 0 where
  pub parent : IsSmall label.parent
  pub choice : IsSmall label.choice
  pub links : All IsSmall label.links

-- label 0 comes from no other
abbrev pub StartsAtZero : List CertLabel → Type 0
StartsAtZero [] = Unit {0}
StartsAtZero (label ∷ _) = (label.parent ≡ 0) × (label.choice ≡ 0)

-- the certificates within the limits
pub record HasText (cert : Certificate) : Type 0 where
  pub start : StartsAtZero cert.labels
  pub few_labels : length cert.labels ≤ MAX_LABELS
  pub few_finals : length cert.finals ≤ MAX_LABELS
  pub few_goal_links : length cert.goal_links ≤ MAX_LABELS
  pub few_links : sum_by (λ label. length label.links) cert.labels ≤ MAX_LINKS
  pub small_labels : All HasSmallNumbers cert.labels
  pub small_finals : All IsSmall cert.finals
  pub small_goal_links : All IsSmall cert.goal_links
