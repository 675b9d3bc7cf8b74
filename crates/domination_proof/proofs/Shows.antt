-- The answers of what was found are those of its certificate.
use Rattle.std.proofs.Common.{◌≡◌, ℕ, List, ap, sym, ◌∙◌}
use Rattle.std.specs.Prelude.{All, map}
use Rattle.std.proofs.lemmas.Simd.{map-map}
use Rattle.std.specs.Prelude.{get_or}
use Rattle.std.proofs.lemmas.Option.{slice_get-get_or}
use Rattle.rulebook_order.specs.Answer.{AreUndominated}
use Rattle.rulebook_order.specs.Graph.{Graph, IsReached, finished}
use Rattle.rulebook_order.proofs.Lists.{Contains-from_slice_get}
use Rattle.label_search.specs.declared.label.Label.{Label}
use Rattle.label_search.specs.Found.{HaveParents, pairs_of}
use Rattle.certificate_text.specs.declared.certificate.CertLabel.{CertLabel}
use Rattle.certificate_checker.specs.GoodCertificate.{pairs_of as certified_pairs}
use Rattle.certificate_checker.specs.Labels.{ends_of}
use Rattle.domination_proof.specs.Copies.{cert_label}
use Rattle.domination_proof.proofs.Copied.{pair_there, same_pairs}

module _ {S : Type 0} (g : Graph S) (labels : List (Label S)) where
  -- the labels' running vectors are reached
  pub labels_reached : (IsNoWorse : List ℕ → List ℕ → Type 0) → AreUndominated g IsNoWorse (pairs_of labels) → All (λ (label : Label S). IsReached g label.state label.vector) labels
  labels_reached IsNoWorse are k d inside =
      let label = get_or labels k d in
      ((are.exact label.state label.vector).0 (Contains-from_slice_get (pairs_of labels) k (label.state, label.vector) (pair_there g labels k label (slice_get-get_or labels k d inside)))).has

  -- their finished vectors are those of the certificate's labels
  pub ends_are : (copies : List CertLabel) → copies ≡ map cert_label labels → HaveParents g labels → map (λ (label : Label S). finished g label.state label.vector) labels ≡ ends_of g (certified_pairs g copies)
  ends_are copies is parents =
      sym (map-map (λ (pair : S × List ℕ). finished g pair.0 pair.1) (λ (label : Label S). (label.state, label.vector)) labels)
      ∙ ap (ends_of g) (sym (same_pairs g labels parents) ∙ ap (certified_pairs g) (sym is))
