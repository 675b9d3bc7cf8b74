-- Where two relations agree, the conditions of a certificate say the same by both.
use Rattle.std.proofs.Common.{ℕ, ◌↔◌, List}
use Rattle.std.specs.Prelude.{Result, Ok, Err, OnOk, IfErr}
use Rattle.preorder.specs.declared.order.Preorder.{Preorder}
use Rattle.rulebook_order.specs.Certified.{HasGoalLink}
use Rattle.rulebook_order.specs.Graph.{Graph}
use Rattle.rulebook_order.specs.NoWorseBy.{NoWorseBy, no_worse_by}
use Rattle.rulebook_order.specs.VectorOrder.{Holds}
use Rattle.rulebook_order.specs.laws.PairLaws.{no_worse_by-words}
use Rattle.certificate_text.specs.declared.certificate.Certificate.{Certificate}
use Rattle.certificate_checker.specs.GoodCertificate.{pairs_of, HasLinks, StandsApart, IsGood}
use Rattle.certificate_checker.specs.Failing.{FailsFirst, AreLinked, AreAnswered, Fails, no_label, late_parent, no_choice, no_link, stray_final, no_goal_link, crowded_final, surplus_links, surplus_goal_links, RejectedBy}
use Rattle.certificate_checker.specs.declared.checked.Checked.{Checked}
use Rattle.certificate_checker.specs.declared.checked.Rejection.{Rejection}
use Rattle.certificate_checker.specs.declared.checked.Rejection.TheVariants.{Condition, NoMemory}

-- what fails first by the one fact fails first by the other
FailsFirst-agree : (n : ℕ) (A B : ℕ → Type 0) → ((k : ℕ) → A k → B k) → ((k : ℕ) → B k → A k) → (k : ℕ) → FailsFirst n A k → FailsFirst n B k
FailsFirst-agree n A B there back k f = record { below = f.below; fails = λ b. f.fails (back k b); before = λ j h. there j (f.before j h) }

-- one way, condition by condition
module _ {S : Type 0} (g : Graph S) (P Q : List ℕ → List ℕ → Type 0) (there : (x y : List ℕ) → P x y → Q x y) (back : (x y : List ℕ) → Q x y → P x y) (cert : Certificate) where
  links_there : (k : ℕ) → HasLinks g P (pairs_of g cert.labels) cert.labels k → HasLinks g Q (pairs_of g cert.labels) cert.labels k
  links_there k h label s v at pair c below =
      let l = h label s v at pair c below in
      record { link = l.link; found = l.found; link_is = l.link_is; pair_is = l.pair_is; no_worse_is = there _ _ l.no_worse_is }

  goal_link_there : (k : ℕ) → HasGoalLink g P (pairs_of g cert.labels) cert.finals cert.goal_links k → HasGoalLink g Q (pairs_of g cert.labels) cert.finals cert.goal_links k
  goal_link_there k h s v pair goal =
      let a = h s v pair goal in
      record { final = a.final; link_is = a.link_is; listed = a.listed; no_worse_is = there _ _ a.no_worse_is }

  apart_there : (j : ℕ) → StandsApart g P (pairs_of g cert.labels) cert.finals j → StandsApart g Q (pairs_of g cert.labels) cert.finals j
  apart_there j h i a b below at_i at_j =
      let apart = h i a b below at_i at_j in
      (λ le. apart.0 (back _ _ le), λ le. apart.1 (back _ _ le))

  linked_there : AreLinked g P cert.labels → AreLinked g Q cert.labels
  linked_there l = record { first = l.first; parents = l.parents; choices = l.choices; links = λ k inside. links_there k (l.links k inside) }

  answered_there : AreAnswered g P cert → AreAnswered g Q cert
  answered_there a = record { finals = a.finals; goal_links = λ k inside. goal_link_there k (a.goal_links k inside); apart = λ j inside. apart_there j (a.apart j inside) }

  good_there : IsGood g P cert → IsGood g Q cert
  good_there good = record {
    first = good.first;
    parents = good.parents;
    choices = good.choices;
    links = λ k inside. links_there k (good.links k inside);
    finals = good.finals;
    goal_links = λ k inside. goal_link_there k (good.goal_links k inside);
    apart = λ j inside. apart_there j (good.apart j inside);
    no_surplus = good.no_surplus;
    no_more_goal_links = good.no_more_goal_links;
  }

module _ {S : Type 0} (g : Graph S) (P Q : List ℕ → List ℕ → Type 0) (agree : (x y : List ℕ) → P x y ↔ Q x y) (cert : Certificate) where
  there : (x y : List ℕ) → P x y → Q x y
  there x y = (agree x y).0

  back : (x y : List ℕ) → Q x y → P x y
  back x y = (agree x y).1

  -- a certificate that is good by the one is good by the other
  pub IsGood-agree : IsGood g P cert ↔ IsGood g Q cert
  IsGood-agree = (good_there g P Q there back cert, good_there g Q P back there cert)

  -- what fails by the one fails by the other
  pub Fails-agree : (number label : ℕ) → Fails g P cert number label → Fails g Q cert number label
  Fails-agree number label (no_label f) = no_label f
  Fails-agree number label (late_parent k first f) = late_parent k first f
  Fails-agree number label (no_choice k first parents f) = no_choice k first parents f
  Fails-agree number label (no_link k first parents choices f) = no_link k first parents choices (FailsFirst-agree _ _ _ (links_there g P Q there back cert) (links_there g Q P back there cert) k f)
  Fails-agree number label (stray_final j final linked f at) = stray_final j final (linked_there g P Q there back cert linked) f at
  Fails-agree number label (no_goal_link k linked finals f) = no_goal_link k (linked_there g P Q there back cert linked) finals (FailsFirst-agree _ _ _ (goal_link_there g P Q there back cert) (goal_link_there g Q P back there cert) k f)
  Fails-agree number label (crowded_final j final linked finals goal_links f at) =
      crowded_final j final (linked_there g P Q there back cert linked) finals (λ k inside. goal_link_there g P Q there back cert k (goal_links k inside)) (FailsFirst-agree _ _ _ (apart_there g P Q there back cert) (apart_there g Q P back there cert) j f) at
  Fails-agree number label (surplus_links k linked answered f) = surplus_links k (linked_there g P Q there back cert linked) (answered_there g P Q there back cert answered) f
  Fails-agree number label (surplus_goal_links linked answered links f) = surplus_goal_links (linked_there g P Q there back cert linked) (answered_there g P Q there back cert answered) links f

  pub RejectedBy-agree : (fault : Rejection) → RejectedBy (Fails g P cert) fault → RejectedBy (Fails g Q cert) fault
  RejectedBy-agree (Condition number label) fails = Fails-agree number label fails
  RejectedBy-agree NoMemory fails = tt

-- good by the test of a pre-order is good by its words
pub IsGood-words : {S : Type 0} (g : Graph S) (order : Preorder) (cert : Certificate) → IsGood g (Holds (no_worse_by order)) cert ↔ IsGood g (NoWorseBy order) cert
IsGood-words g order cert = IsGood-agree g (Holds (no_worse_by order)) (NoWorseBy order) (no_worse_by-words order) cert

-- so is what a check returned
pub OnOk-words : {S : Type 0} (g : Graph S) (order : Preorder) (cert : Certificate) (result : Result Checked Rejection) → OnOk result (IsGood g (Holds (no_worse_by order)) cert) → OnOk result (IsGood g (NoWorseBy order) cert)
OnOk-words g order cert (Ok checked) good = (IsGood-words g order cert).0 good
OnOk-words g order cert (Err fault) h = tt

pub IfErr-words : {S : Type 0} (g : Graph S) (order : Preorder) (cert : Certificate) (result : Result Checked Rejection) → IfErr result (RejectedBy (Fails g (Holds (no_worse_by order)) cert)) → IfErr result (RejectedBy (Fails g (NoWorseBy order) cert))
IfErr-words g order cert (Ok checked) h = tt
IfErr-words g order cert (Err fault) rejected = RejectedBy-agree g (Holds (no_worse_by order)) (NoWorseBy order) (no_worse_by-words order) cert fault rejected
