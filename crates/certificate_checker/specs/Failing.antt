-- The first condition of a good certificate that fails, and where.
use Rattle.std.specs.Prelude.{◌≡◌, ℕ, ◌<◌, ◌≤◌, List, length, Option, Some, MatchOption, slice_get}
use Rattle.rulebook_order.specs.Certified.{goals_in, HasGoalLink}
use Rattle.rulebook_order.specs.Graph.{Graph}
use Rattle.certificate_text.specs.declared.certificate.Certificate.{Certificate}
use Rattle.certificate_text.specs.declared.certificate.CertLabel.{CertLabel}
use Rattle.certificate_checker.specs.GoodCertificate.{pairs_of, HasFirst, ParentIsEarlier}
use Rattle.certificate_checker.specs.GoodCertificate.{HasChoice, HasLinks, FinalIsAtGoal}
use Rattle.certificate_checker.specs.GoodCertificate.{StandsApart, HasNoSurplus, Everywhere}
use Rattle.certificate_checker.specs.declared.checked.Rejection.{Rejection}
use Rattle.certificate_checker.specs.declared.checked.Rejection.TheVariants.{Condition, NoMemory}

-- at place k below n the fact fails, and at no place before
pub record FailsFirst (n : ℕ) (Holds : ℕ → Type 0) (k : ℕ) : Type 0 where
  pub below : k < n
  pub fails : ¬ Holds k
  pub before : (j : ℕ) → j < k → Holds j

-- the first place below n at which the fact fails, or none
abbrev pub FirstFailing : ℕ → (ℕ → Type 0) → Option ℕ → Type 0
FirstFailing n Holds result = MatchOption result (Everywhere n Holds) (FailsFirst n Holds)

-- conditions 1 to 4 hold
pub record AreLinked {S : Type 0} (g : Graph S) (IsNoWorse : List ℕ → List ℕ → Type 0)
    (labels : List CertLabel) : Type 0 where
  pub first : HasFirst labels
  pub parents : Everywhere (length labels) (ParentIsEarlier labels)
  pub choices : Everywhere (length labels) (HasChoice g (pairs_of g labels) labels)
  pub links : Everywhere (length labels) (HasLinks g IsNoWorse (pairs_of g labels) labels)

-- conditions 5 to 7 hold
pub record AreAnswered {S : Type 0} (g : Graph S) (IsNoWorse : List ℕ → List ℕ → Type 0)
    (cert : Certificate) : Type 0 where
  pub finals : Everywhere (length cert.finals) (FinalIsAtGoal g
      (pairs_of g cert.labels) cert.finals)
  pub goal_links : Everywhere (length cert.labels)
      (HasGoalLink g IsNoWorse (pairs_of g cert.labels) cert.finals cert.goal_links)
  pub apart : Everywhere (length cert.finals) (StandsApart g IsNoWorse
      (pairs_of g cert.labels) cert.finals)

-- the condition with this number is the first that fails, and this is the label to name: each
-- condition before it holds everywhere
pub data Fails {S : Type 0} (g : Graph S) (IsNoWorse : List ℕ → List ℕ → Type 0)
    (cert : Certificate) : ℕ → ℕ → Type 0 where
  no_label : ¬ HasFirst cert.labels → Fails g IsNoWorse cert 1 0
  late_parent : (k : ℕ) → HasFirst cert.labels → FailsFirst (length cert.labels)
      (ParentIsEarlier cert.labels) k → Fails g IsNoWorse cert 2 k
  no_choice : (k : ℕ) → HasFirst cert.labels → Everywhere (length cert.labels)
      (ParentIsEarlier cert.labels) → FailsFirst (length cert.labels)
      (HasChoice g (pairs_of g cert.labels) cert.labels) k → Fails g IsNoWorse cert 3 k
  no_link : (k : ℕ) → HasFirst cert.labels → Everywhere (length cert.labels)
      (ParentIsEarlier cert.labels) → Everywhere (length cert.labels)
      (HasChoice g (pairs_of g cert.labels) cert.labels)
      → FailsFirst (length cert.labels) (HasLinks g IsNoWorse
      (pairs_of g cert.labels) cert.labels) k → Fails g IsNoWorse cert 4 k
  stray_final : (j final : ℕ) → AreLinked g IsNoWorse cert.labels
      → FailsFirst (length cert.finals) (FinalIsAtGoal g (pairs_of g cert.labels) cert.finals) j
      → slice_get cert.finals j ≡ Some final → Fails g IsNoWorse cert 5 final
  no_goal_link : (k : ℕ) → AreLinked g IsNoWorse cert.labels
      → Everywhere (length cert.finals) (FinalIsAtGoal g (pairs_of g cert.labels) cert.finals)
      → FailsFirst (length cert.labels) (HasGoalLink g IsNoWorse
      (pairs_of g cert.labels) cert.finals cert.goal_links) k → Fails g IsNoWorse cert 6 k
  crowded_final : (j final : ℕ) → AreLinked g IsNoWorse cert.labels
      → Everywhere (length cert.finals) (FinalIsAtGoal g (pairs_of g cert.labels) cert.finals)
      → Everywhere (length cert.labels) (HasGoalLink g IsNoWorse
      (pairs_of g cert.labels) cert.finals cert.goal_links)
      → FailsFirst (length cert.finals) (StandsApart g IsNoWorse
      (pairs_of g cert.labels) cert.finals) j → slice_get cert.finals j ≡ Some final
      → Fails g IsNoWorse cert 7 final
  surplus_links : (k : ℕ) → AreLinked g IsNoWorse cert.labels → AreAnswered g IsNoWorse cert
      → FailsFirst (length cert.labels) (HasNoSurplus g (pairs_of g cert.labels) cert.labels) k
      → Fails g IsNoWorse cert 8 k
  surplus_goal_links : AreLinked g IsNoWorse cert.labels → AreAnswered g IsNoWorse cert
      → Everywhere (length cert.labels) (HasNoSurplus g (pairs_of g cert.labels) cert.labels)
      → ¬ length cert.goal_links ≤ goals_in g (pairs_of g cert.labels)
      → Fails g IsNoWorse cert 8 (length cert.labels)

-- a rejection names what fails, or want of memory
abbrev pub RejectedBy : (ℕ → ℕ → Type 0) → Rejection → Type 0
RejectedBy Names (Condition number label) = Names number label
RejectedBy Names NoMemory = Unit {0}
