-- When a certificate shows an answer: eight conditions, each over labels or finals in order. (This
-- project's own.)
use Rattle.std.specs.Prelude.{◌≡◌, ℕ, ◌<◌, ◌≤◌, List, [], ◌∷◌, ◌++◌, length, Some, slice_get}
use Rattle.std.specs.Prelude.{slice_index_or, sum_by}
use Rattle.rulebook_order.specs.Certified.{IsLinked, IsGoalLabel, goals_in, finished_at}
use Rattle.rulebook_order.specs.Certified.{finished_vectors, HasGoalLink}
use Rattle.rulebook_order.specs.Graph.{Graph, pair_by}
use Rattle.rulebook_order.specs.NoWorse.{AreApart}
use Rattle.certificate_text.specs.declared.certificate.CertLabel.{CertLabel}
use Rattle.certificate_text.specs.declared.certificate.Certificate.{Certificate}

-- the state and the running vector of a label: what those of its parent lead to by its choice
abbrev pub pair_of : {S : Type 0} → Graph S → List (S × List ℕ) → CertLabel → S × List ℕ
pair_of g pairs label =
    pair_by g (slice_index_or pairs label.parent (g.start, g.first)) label.choice

-- the pairs of earlier labels, and then those of these
abbrev pub pairs_after : {S : Type 0} → Graph S → List (S × List ℕ) → List CertLabel
    → List (S × List ℕ)
pairs_after g pairs [] = pairs
pairs_after g pairs (label ∷ labels) = pairs_after g (pairs ++ pair_of g pairs label ∷ []) labels

-- the pairs of the labels: label 0 has the start's, and each other one what its parent's lead to by
-- its choice
abbrev pub pairs_of : {S : Type 0} → Graph S → List CertLabel → List (S × List ℕ)
pairs_of g [] = []
pairs_of g (label ∷ labels) = pairs_after g ((g.start, g.first) ∷ []) labels

-- 1: there is a label 0
abbrev pub HasFirst : List CertLabel → Type 0
HasFirst labels = 0 < length labels

-- 2: a later label's parent has a smaller number
abbrev pub ParentIsEarlier : List CertLabel → ℕ → Type 0
ParentIsEarlier labels k =
    (label : CertLabel) → slice_get labels k ≡ Some label → 0 < k → label.parent < k

-- 3: its choice is below the number of choices of its parent's state
abbrev pub HasChoice : {S : Type 0} → Graph S → List (S × List ℕ) → List CertLabel → ℕ → Type 0
HasChoice {S} g pairs labels k =
    (label : CertLabel) (s : S) (v : List ℕ) → slice_get labels k ≡ Some label → 0 < k
    → slice_get pairs label.parent ≡ Some (s, v) → label.choice < g.choices s

-- 4: a label has for each of its choices a link to a label of the state reached, whose running
-- vector is no worse than the one reached
abbrev pub HasLinks : {S : Type 0} → Graph S → (List ℕ → List ℕ → Type 0) → List (S × List ℕ)
    → List CertLabel → ℕ → Type 0
HasLinks {S} g IsNoWorse pairs labels k =
    (label : CertLabel) (s : S) (v : List ℕ) → slice_get labels k ≡ Some label
    → slice_get pairs k ≡ Some (s, v) → IsLinked g IsNoWorse pairs label.links s v

-- 5: the final at place j is a label at a goal
abbrev pub FinalIsAtGoal : {S : Type 0} → Graph S → List (S × List ℕ) → List ℕ → ℕ → Type 0
FinalIsAtGoal g pairs finals j =
    (final : ℕ) → slice_get finals j ≡ Some final → IsGoalLabel g pairs final

-- 6 is HasGoalLink

-- 7: the final at place j stands apart from each earlier one, by their finished vectors
abbrev pub StandsApart : {S : Type 0} → Graph S → (List ℕ → List ℕ → Type 0) → List (S × List ℕ)
    → List ℕ → ℕ → Type 0
StandsApart g IsNoWorse pairs finals j =
    (i a b : ℕ) → i < j → slice_get finals i ≡ Some a → slice_get finals j ≡ Some b
    → AreApart IsNoWorse (finished_at g pairs a) (finished_at g pairs b)

-- 8: a label has no more links than choices
abbrev pub HasNoSurplus : {S : Type 0} → Graph S → List (S × List ℕ) → List CertLabel → ℕ → Type 0
HasNoSurplus {S} g pairs labels k =
    (label : CertLabel) (s : S) (v : List ℕ) → slice_get labels k ≡ Some label
    → slice_get pairs k ≡ Some (s, v) → length label.links ≤ g.choices s

-- the fact holds at each place below n
abbrev pub Everywhere : ℕ → (ℕ → Type 0) → Type 0
Everywhere n Holds = (k : ℕ) → k < n → Holds k

-- a certificate that meets the eight conditions
pub record IsGood {S : Type 0} (g : Graph S) (IsNoWorse : List ℕ → List ℕ → Type 0)
    (cert : Certificate) : Type 0 where
  pub first : HasFirst cert.labels
  pub parents : Everywhere (length cert.labels) (ParentIsEarlier cert.labels)
  pub choices : Everywhere (length cert.labels) (HasChoice g (pairs_of g cert.labels) cert.labels)
  pub links : Everywhere (length cert.labels) (HasLinks g IsNoWorse
      (pairs_of g cert.labels) cert.labels)
  pub finals : Everywhere (length cert.finals) (FinalIsAtGoal g
      (pairs_of g cert.labels) cert.finals)
  pub goal_links : Everywhere (length cert.labels)
      (HasGoalLink g IsNoWorse (pairs_of g cert.labels) cert.finals cert.goal_links)
  pub apart : Everywhere (length cert.finals) (StandsApart g IsNoWorse
      (pairs_of g cert.labels) cert.finals)
  pub no_surplus : Everywhere (length cert.labels)
      (HasNoSurplus g (pairs_of g cert.labels) cert.labels)
  pub no_more_goal_links : length cert.goal_links ≤ goals_in g (pairs_of g cert.labels)

-- the answers of a certificate: the finished vectors of its finals, in their order
abbrev pub answers_of : {S : Type 0} → Graph S → Certificate → List (List ℕ)
answers_of g cert = finished_vectors g (pairs_of g cert.labels) cert.finals

-- the choices that the parents give from the start to label k
pub data LeadsToLabel (labels : List CertLabel) : ℕ → List ℕ → Type 0 where
  start : LeadsToLabel labels 0 []
  then : (k : ℕ) (label : CertLabel) (choices : List ℕ) → 0 < k → slice_get labels k ≡ Some label
      → LeadsToLabel labels label.parent choices → LeadsToLabel labels k
      (choices ++ label.choice ∷ [])

-- how many links the labels have together
abbrev pub links_of : List CertLabel → ℕ
links_of labels = sum_by (λ label. length label.links) labels

-- how many labels come after the first
abbrev pub later_labels : List CertLabel → ℕ
later_labels [] = 0
later_labels (_ ∷ labels) = length labels
