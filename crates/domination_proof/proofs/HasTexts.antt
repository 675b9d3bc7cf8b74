-- What a search found within the limits makes a certificate that has a text.
use Rattle.std.proofs.Common.{◌≡◌, ◌≢◌, ℕ, zero, suc, ◌<◌, ◌≤◌, true, List, [], ◌∷◌, length, take, get_or, refl, ap, sym, subst, ◌∙◌, inl, inr, arith}
use Rattle.std.specs.Prelude.{All, AllPairs, Contains, Some, slice_get, slice_index_or, map, option_map}
use Rattle.std.proofs.lemmas.Bool.{cases_Bool, cases_eq}
use Rattle.std.proofs.lemmas.Option.{slice_get_within, slice_get-map, get_or_from_slice_get, slice_get-get_or}
use Rattle.std.proofs.lemmas.List.{length-map}
use Rattle.std.proofs.lemmas.List.Elements.{All-contains, All-contains_itself, All-map, All-weaker}
use Rattle.std.proofs.lemmas.List.Sums.{sum_by-le}
use Rattle.rulebook_order.specs.Certified.{IsGoalLabel, goals_in, finished_at, finished_vectors}
use Rattle.rulebook_order.specs.Graph.{Graph, finished}
use Rattle.rulebook_order.proofs.Counting.{distinct_within}
use Rattle.rulebook_order.proofs.GoalCount.{count-more, count-same}
use Rattle.rulebook_order.proofs.Lists.{Contains-from_slice_get, pair_at, AllPairs-map}
use Rattle.label_search.specs.declared.label.Label.{Label}
use Rattle.label_search.specs.declared.label.Found.{Found}
use Rattle.label_search.specs.Found.{HaveParents, HasLinks, AreFinals, AreGoalLinks, HasChoicesUpTo}
use Rattle.label_search.specs.Found as found
use Rattle.certificate_text.specs.declared.TheConstants.{MAX_LABELS}
use Rattle.certificate_text.specs.declared.certificate.CertLabel.{CertLabel}
use Rattle.certificate_text.specs.declared.certificate.Certificate.{Certificate}
use Rattle.certificate_text.specs.declared.fault.CertFault.{CertFault}
use Rattle.certificate_text.specs.ReadText.{certificate_in}
use Rattle.certificate_text.proofs.WrittenWhole.{certificate_written}
use Rattle.certificate_text.proofs.NumberLaws.{done_same}
use Rattle.certificate_text.specs.Text.{text, HasText, HasSmallNumbers, IsSmall, StartsAtZero}
use Rattle.domination_proof.specs.declared.laws.TheConstants.{MAX_CHOICES}
use Rattle.domination_proof.specs.Copies.{cert_label, cert_of}
use Rattle.domination_proof.specs.Shown.{IsShown}
use Rattle.domination_proof.proofs.Copied.{pair_there}

-- a number below the limit of labels, as those of labels are
abbrev pub IsLow : ℕ → Type 0
IsLow n = n < MAX_LABELS

pub record HasLowNumbers (label : CertLabel) : Type 0 where
  pub parent : IsLow label.parent
  pub choice : label.choice < MAX_CHOICES
  pub links : All IsLow label.links

low_is_small : (n : ℕ) → IsLow n → IsSmall n
low_is_small n low = omega (arith, low)

all_small : (ns : List ℕ) → All IsLow ns → All IsSmall ns
all_small = All-weaker IsLow IsSmall low_is_small

small_numbers : (label : CertLabel) → HasLowNumbers label → HasSmallNumbers label
small_numbers label low = record { parent = low_is_small label.parent low.parent; choice = omega (arith, low.choice); links = all_small label.links low.links }

-- where goal labels with smaller numbers are j, label k is at a goal
record IsGoalAt {S : Type 0} (g : Graph S) (pairs : List (S × List ℕ)) (j : ℕ) : Type 0 where
  place : ℕ
  pair : S × List ℕ
  pair_is : slice_get pairs place ≡ Some pair
  at_goal : g.goal pair.0 ≡ true
  before : goals_in g (take place pairs) ≡ j

module _ {S : Type 0} (g : Graph S) where
  passed : (q : S × List ℕ) (qs : List (S × List ℕ)) (i j : ℕ) → ((k : ℕ) → goals_in g (take k qs) ≡ i → goals_in g (q ∷ take k qs) ≡ j) → IsGoalAt g qs i → IsGoalAt g (q ∷ qs) j
  passed q qs i j count h = record { place = suc h.place; pair = h.pair; pair_is = h.pair_is; at_goal = h.at_goal; before = count h.place h.before }

  -- the label at a goal that has so many before it
  goal_at : (pairs : List (S × List ℕ)) (j : ℕ) → j < goals_in g pairs → IsGoalAt g pairs j
  goal_at [] j h = absurd (omega arith)
  goal_at (q ∷ qs) zero h = elim (cases_Bool (g.goal q.0)) [
    | inl t ↦ record { place = 0; pair = q; pair_is = refl; at_goal = t; before = refl }
    | inr f ↦ passed q qs zero zero (λ k e. count-same g q (take k qs) f ∙ e) (goal_at qs zero (omega (arith, count-same g q qs f)))
  ]
  goal_at (q ∷ qs) (suc j) h = elim (cases_Bool (g.goal q.0)) [
    | inl t ↦ passed q qs j (suc j) (λ k e. omega (arith, count-more g q (take k qs) t, e)) (goal_at qs j (omega (arith, count-more g q qs t)))
    | inr f ↦ passed q qs (suc j) (suc j) (λ k e. count-same g q (take k qs) f ∙ e) (goal_at qs (suc j) (omega (arith, count-same g q qs f)))
  ]

  -- no more labels are at goals than there are
  goals_in-few : (pairs : List (S × List ℕ)) → goals_in g pairs ≤ length pairs
  goals_in-few [] = omega arith
  goals_in-few (q ∷ qs) = elim (cases_Bool (g.goal q.0)) [
    | inl t ↦ omega (arith, count-more g q qs t, goals_in-few qs)
    | inr f ↦ omega (arith, count-same g q qs f, goals_in-few qs)
  ]

-- numbers whose images differ differ, and are no more than there are labels
module _ {S : Type 0} (g : Graph S) (pairs : List (S × List ℕ)) (finals : List ℕ) (at_goal : All (IsGoalLabel g pairs) finals) (once : AllPairs (λ v w. v ≢ w) (finished_vectors g pairs finals)) where
  pair_of_final : ℕ → S × List ℕ
  pair_of_final f = slice_index_or pairs f (g.start, g.first)

  listed : (f : ℕ) → Contains finals f → Contains pairs (pair_of_final f)
  unfolding pair_of_final
  listed f h =
      let goal = All-contains (IsGoalLabel g pairs) finals f at_goal h in
      subst (Contains pairs) (sym (get_or_from_slice_get pairs f (goal.state, goal.vector) (g.start, g.first) goal.pair_is)) (Contains-from_slice_get pairs f (goal.state, goal.vector) goal.pair_is)

  differ : AllPairs (λ i j. pair_of_final i ≢ pair_of_final j) finals
  unfolding pair_of_final
  differ i j d below inside same =
      let at_i = slice_get-map (finished_at g pairs) finals i ∙ ap (option_map (finished_at g pairs)) (slice_get-get_or finals i d (omega arith)) in
      let at_j = slice_get-map (finished_at g pairs) finals j ∙ ap (option_map (finished_at g pairs)) (slice_get-get_or finals j d inside) in
      pair_at (λ v w. v ≢ w) (finished_vectors g pairs finals) once i j (finished_at g pairs (get_or finals i d)) (finished_at g pairs (get_or finals j d)) below at_i at_j
      (ap (λ (p : S × List ℕ). finished g p.0 p.1) same)

  pub finals_few : length finals ≤ length pairs
  finals_few =
      let few = distinct_within (map pair_of_final finals) pairs (AllPairs-map pair_of_final (λ p q. p ≢ q) finals differ) (All-map (Contains pairs) pair_of_final finals (All-weaker (Contains finals) (λ f. Contains pairs (pair_of_final f)) listed finals (All-contains_itself finals))) in
      omega (arith, few, length-map finals pair_of_final)

module _ {S : Type 0} (g : Graph S) (IsNoWorse : List ℕ → List ℕ → Type 0) (what : Found S) (shown : IsShown g IsNoWorse what) (few : length what.labels ≤ MAX_LABELS) (choices : HasChoicesUpTo g MAX_CHOICES) where
  abbrev pairs : List (S × List ℕ)
  pairs = found.pairs_of what.labels

  size : length pairs ≡ length what.labels
  size = length-map what.labels (λ (x : Label S). (x.state, x.vector))

  -- a label's number is below the limit
  low : (n : ℕ) (p : S × List ℕ) → slice_get pairs n ≡ Some p → IsLow n
  low n p at = omega (arith, size, few, slice_get_within pairs n p at)

  -- so is a choice
  few_choices : (k : ℕ) (s : S) (v : List ℕ) → slice_get pairs k ≡ Some (s, v) → g.choices s ≤ MAX_CHOICES
  few_choices k s v at = choices s (v, ((shown.labels.exact s v).0 (Contains-from_slice_get pairs k (s, v) at)).has)

  links_at : (k : ℕ) (label : Label S) → slice_get what.labels k ≡ Some label → HasLinks g IsNoWorse pairs label
  links_at k label at = All-contains (HasLinks g IsNoWorse pairs) what.labels label shown.links (Contains-from_slice_get what.labels k label at)

  few_links : (k : ℕ) (label : Label S) → slice_get what.labels k ≡ Some label → length label.links ≤ MAX_CHOICES
  few_links k label at = omega (arith, (links_at k label at).count, few_choices k label.state label.vector (pair_there g what.labels k label at))

  low_links : (k : ℕ) (label : Label S) → slice_get what.labels k ≡ Some label → All IsLow label.links
  low_links k label at c d inside =
      let has = links_at k label at in
      let link = has.linked c (omega (arith, has.count)) in
      subst IsLow (sym (get_or_from_slice_get label.links c link.link d link.link_is)) (low link.link (g.next label.state c, link.found) link.pair_is)

  low_label : (k : ℕ) (label : Label S) → slice_get what.labels k ≡ Some label → HasLowNumbers (cert_label label)
  low_label k label at = elim (cases_eq k 0) [
    | inl is_start ↦ (
        let first = shown.parents.first label (subst (λ n. slice_get what.labels n ≡ Some label) is_start at) in
        record { parent = omega (arith, first.parent_is); choice = omega (arith, first.choice_is); links = low_links k label at })
    | inr up ↦ (
        let come = shown.parents.later k label (omega (arith, up)) at in
        record {
          parent = low label.parent (come.state, come.vector) come.parent_is;
          choice = omega (arith, come.choice_below, few_choices label.parent come.state come.vector come.parent_is);
          links = low_links k label at;
        })
  ]

  starts : (labels : List (Label S)) → HaveParents g labels → StartsAtZero (map cert_label labels)
  starts [] parents = tt
  starts (l ∷ ls) parents = let first = parents.first l refl in (first.parent_is, first.choice_is)

  -- a fact of each label of the certificate, from that of each label found
  each : (P : CertLabel → Type 0) → ((k : ℕ) (label : Label S) → slice_get what.labels k ≡ Some label → P (cert_label label)) → All P (map cert_label what.labels)
  each P h = All-map P cert_label what.labels (λ k d inside. h k (get_or what.labels k d) (slice_get-get_or what.labels k d inside))

  low_finals : (f : ℕ) → Contains what.finals f → IsLow f
  low_finals f listed_f = let goal = All-contains (IsGoalLabel g pairs) what.finals f shown.finals.at_goal listed_f in low f (goal.state, goal.vector) goal.pair_is

  pub goal_links_low : All IsLow what.goal_links
  goal_links_low j d inside =
      let at = goal_at g pairs j (omega (arith, shown.goal_links.count)) in
      let answered = shown.goal_links.linked at.place at.pair.0 at.pair.1 at.pair_is at.at_goal in
      let link_is = subst (λ n. slice_get what.goal_links n ≡ Some answered.final) at.before answered.link_is in
      subst IsLow (sym (get_or_from_slice_get what.goal_links j answered.final d link_is)) (low_finals answered.final answered.listed)

  pub labels_low : All HasLowNumbers (map cert_label what.labels)
  labels_low = each HasLowNumbers low_label

  pub finals_low : All IsLow what.finals
  finals_low = All-weaker (Contains what.finals) IsLow low_finals what.finals (All-contains_itself what.finals)

  -- what was found has a text
  pub HasText-found : HasText (cert_of what)
  HasText-found = record {
    start = starts what.labels shown.parents;
    few_labels = omega (arith, few, length-map what.labels (λ (x : Label S). cert_label x));
    few_finals = omega (arith, few, size, finals_few g pairs what.finals shown.finals.at_goal shown.finals.answer.once);
    few_goal_links = omega (arith, few, size, shown.goal_links.count, goals_in-few g pairs);
    few_links = omega (arith, few, length-map what.labels (λ (x : Label S). cert_label x), sum_by-le (λ (label : CertLabel). length label.links) MAX_CHOICES (map cert_label what.labels) (each (λ label. length label.links ≤ MAX_CHOICES) few_links));
    small_labels = All-weaker HasLowNumbers HasSmallNumbers small_numbers (map cert_label what.labels) labels_low;
    small_finals = all_small what.finals finals_low;
    small_goal_links = all_small what.goal_links goal_links_low;
  }

-- a text within the limits is that of one certificate
pub text_once : (first second : Certificate) → HasText first → HasText second → text first ≡ text second → first ≡ second
text_once first second h k same = done_same {F = CertFault} first second (sym (certificate_written first h) ∙ (ap certificate_in same ∙ certificate_written second k))
