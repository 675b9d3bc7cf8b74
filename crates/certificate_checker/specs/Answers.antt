-- The answers of a certificate with their lists of choices.
use Rattle.std.specs.Prelude.{◌≡◌, ℕ, List, [], Some, slice_get, slice_index_or, map, All}
use Rattle.rulebook_order.specs.Graph.{Graph, Attains}
use Rattle.certificate_text.specs.declared.certificate.CertLabel.{CertLabel}
use Rattle.certificate_checker.specs.GoodCertificate.{LeadsToLabel}
use Rattle.certificate_checker.specs.declared.checked.Attained.{Attained}

-- the vectors of the answers, in their order
abbrev pub vectors_of : List Attained → List (List ℕ)
vectors_of answers = map (λ answer. answer.vector) answers

-- answer j has the choices that the parents give from the start to final j
abbrev pub FollowParents : List CertLabel → List ℕ → List Attained → Type 0
FollowParents labels finals answers =
    (j final : ℕ) (answer : Attained) → slice_get finals j ≡ Some final
    → slice_get answers j ≡ Some answer → LeadsToLabel labels final answer.choices

-- each answer's list of choices ends at a goal with the answer's vector
abbrev pub AreAttained : {S : Type 0} → Graph S → List Attained → Type 0
AreAttained g answers = All (λ answer. Attains g answer.choices answer.vector) answers

-- the answers are the ends of the finals, in their order, with the choices that the parents give
pub record AreListsOf (labels : List CertLabel) (ends : List (List ℕ)) (finals : List ℕ)
    (answers : List Attained) : Type 0 where
  pub vectors : vectors_of answers ≡ map (λ final. slice_index_or ends final []) finals
  pub choices : FollowParents labels finals answers
