-- What the conditions say of the labels' pairs and their ends.
use Rattle.std.proofs.Common.{◌≡◌, ℕ, ◌<◌, List, length, get_or}
use Rattle.std.specs.Prelude.{All, Contains}
use Rattle.std.proofs.lemmas.Option.{slice_get-get_or, slice_get_within}
use Rattle.std.proofs.lemmas.List.Elements.{All-map, All-weaker, All-contains_itself}
use Rattle.rulebook_order.specs.Graph.{Graph, finished}
use Rattle.rulebook_order.specs.StepGraph.{IsStepGraph}
use Rattle.rulebook_order.proofs.Lists.{Contains-slice_get}
use Rattle.rulebook_order.proofs.Reached.{IsReached-built, width_finished}
use Rattle.certificate_text.specs.declared.certificate.CertLabel.{CertLabel}
use Rattle.certificate_checker.specs.GoodCertificate.{pairs_of, FinalIsAtGoal, Everywhere}
use Rattle.certificate_checker.specs.Failing.{AreLinked}
use Rattle.certificate_checker.specs.Labels.{AreReached, ends_of}
use Rattle.certificate_checker.proofs.Pairs.{pair_built}

pub reached_of : {S : Type 0} (g : Graph S) (IsNoWorse : List ℕ → List ℕ → Type 0) (labels : List CertLabel) → AreLinked g IsNoWorse labels → AreReached g (pairs_of g labels)
reached_of g IsNoWorse labels linked k s v at = IsReached-built g (pair_built g labels linked.parents linked.choices k s v at)

pub ends_wide : {S : Type 0} (g : Graph S) → IsStepGraph g → (pairs : List (S × List ℕ)) → AreReached g pairs → All (λ end. length end ≡ g.width) (ends_of g pairs)
ends_wide {S} g laws pairs reached = All-map (λ (end : List ℕ). length end ≡ g.width) (λ (p : S × List ℕ). finished g p.0 p.1) pairs
    (All-weaker (Contains pairs) (λ (p : S × List ℕ). length (finished g p.0 p.1) ≡ g.width) (λ p listed. let at = Contains-slice_get pairs p listed in width_finished g laws p.0 p.1 (reached at.0 p.0 p.1 at.1)) pairs (All-contains_itself pairs))

pub finals_within : {S : Type 0} (g : Graph S) (pairs : List (S × List ℕ)) (finals : List ℕ) → Everywhere (length finals) (FinalIsAtGoal g pairs finals) → All (λ f. f < length pairs) finals
finals_within g pairs finals at_goal k d inside =
    let h = at_goal k inside (get_or finals k d) (slice_get-get_or finals k d inside) in
    slice_get_within pairs (get_or finals k d) (h.state, h.vector) h.pair_is
