-- The choices that the parents give reach their label, and so attain a final's vector.
use Rattle.std.proofs.Common.{◌≡◌, ℕ, ◌<◌, List, [], ◌∷◌, ◌++◌, length, refl, ap, sym, subst, ◌∙◌, arith}
use Rattle.std.specs.Prelude.{All, Contains, Some, slice_get, slice_index_or, map, option_map}
use Rattle.std.proofs.lemmas.Option.{same_Some, slice_get_within, slice_get-map, get_or_from_slice_get}
use Rattle.std.proofs.lemmas.List.{length-map}
use Rattle.std.proofs.lemmas.List.Elements.{All-head, All-tail, All-weaker, All-contains_itself}
use Rattle.rulebook_order.specs.Certified.{finished_at, finished_vectors}
use Rattle.rulebook_order.specs.Graph.{Graph, Reaches, Attains, finished}
use Rattle.rulebook_order.proofs.Lists.{slice_get_some, Contains-slice_get}
use Rattle.rulebook_order.proofs.Reached.{LeadsTo-snoc}
use Rattle.certificate_text.specs.declared.certificate.CertLabel.{CertLabel}
use Rattle.certificate_text.specs.declared.certificate.Certificate.{Certificate}
use Rattle.certificate_checker.specs.GoodCertificate.{pairs_of, ParentIsEarlier, HasChoice, Everywhere, IsGood, answers_of, LeadsToLabel, start, then}
use Rattle.certificate_checker.specs.declared.checked.Attained.{Attained}
use Rattle.certificate_checker.specs.Answers.{vectors_of, FollowParents, AreAttained}
use Rattle.certificate_checker.specs.Labels.{ends_of}
use Rattle.certificate_checker.proofs.Ends.{end_at}
use Rattle.certificate_checker.proofs.Pairs.{length-pairs_of, first_pair, later_pair}

-- the ends of finals, by place, are their finished vectors
pub final_ends : {S : Type 0} (g : Graph S) (pairs : List (S × List ℕ)) (finals : List ℕ) → All (λ f. f < length pairs) finals → map (λ f. slice_index_or (ends_of g pairs) f []) finals ≡ finished_vectors g pairs finals
final_ends g pairs [] all = refl
final_ends g pairs (f ∷ fs) all =
    ap (λ v. v ∷ map (λ h. slice_index_or (ends_of g pairs) h []) fs) (end_at g pairs f [] (All-head (λ h. h < length pairs) f fs all)) ∙ ap (λ vs. finished_at g pairs f ∷ vs) (final_ends g pairs fs (All-tail (λ h. h < length pairs) f fs all))

module _ {S : Type 0} (g : Graph S) (labels : List CertLabel) (parents : Everywhere (length labels) (ParentIsEarlier labels)) (choices : Everywhere (length labels) (HasChoice g (pairs_of g labels) labels)) where
  pub path_reaches : (k : ℕ) (cs : List ℕ) → LeadsToLabel labels k cs → (s : S) (v : List ℕ) → slice_get (pairs_of g labels) k ≡ Some (s, v) → Reaches g cs s v
  path_reaches k cs start s v at =
      let inside = slice_get_within (pairs_of g labels) 0 (s, v) at in
      let pair : (g.start, g.first) ≡ (s, v) = same_Some _ _ (sym (first_pair g labels (omega (arith, length-pairs_of g labels))) ∙ at) in
      (ap (λ p. p.0) (sym pair), ap (λ p. p.1) (sym pair))
  path_reaches k cs (then n label ds up there lead) s v at =
      let inside = slice_get_within labels n label there in
      let early = parents n inside label there up in
      let p = slice_get_some (pairs_of g labels) label.parent (omega (arith, length-pairs_of g labels)) in
      let below = choices n inside label p.0.0 p.0.1 there up p.1 in
      let e = later_pair g labels n label p.0 there up early p.1 in
      let pair = same_Some _ _ (sym e ∙ at) in
      let ih = path_reaches label.parent ds lead p.0.0 p.0.1 p.1 in
      subst (λ (q : S × List ℕ). Reaches g (ds ++ label.choice ∷ []) q.0 q.1) pair (LeadsTo-snoc g g.start g.first ds p.0.0 p.0.1 label.choice ih below)

-- each answer's choices attain its vector
pub attained_by : {S : Type 0} (g : Graph S) (IsNoWorse : List ℕ → List ℕ → Type 0) (cert : Certificate) → IsGood g IsNoWorse cert → (answers : List Attained) → vectors_of answers ≡ answers_of g cert → FollowParents cert.labels cert.finals answers → AreAttained g answers
attained_by {S} g IsNoWorse cert good answers vectors follow = All-weaker (Contains answers) (λ a. Attains g a.choices a.vector)
    (λ a listed.
    let j = Contains-slice_get answers a listed in
    let inside = slice_get_within answers j.0 a j.1 in
    let here : j.0 < length cert.finals = omega (arith, ap (length {A = List ℕ}) vectors, length-map answers (λ (b : Attained). b.vector), length-map cert.finals (finished_at g (pairs_of g cert.labels))) in
    let f = slice_get_some cert.finals j.0 here in
    let goal = good.finals j.0 here f.0 f.1 in
    let there : slice_get (vectors_of answers) j.0 ≡ Some a.vector = slice_get-map (λ (b : Attained). b.vector) answers j.0 ∙ ap (option_map (λ (b : Attained). b.vector)) j.1 in
    let answer : slice_get (answers_of g cert) j.0 ≡ Some (finished_at g (pairs_of g cert.labels) f.0) = slice_get-map (finished_at g (pairs_of g cert.labels)) cert.finals j.0 ∙ ap (option_map (finished_at g (pairs_of g cert.labels))) f.1 in
    let is : a.vector ≡ finished_at g (pairs_of g cert.labels) f.0 = same_Some _ _ (sym there ∙ (ap (λ vs. slice_get vs j.0) vectors ∙ answer)) in
    let end : finished_at g (pairs_of g cert.labels) f.0 ≡ finished g goal.state goal.vector = ap (λ (p : S × List ℕ). finished g p.0 p.1) (get_or_from_slice_get (pairs_of g cert.labels) f.0 (goal.state, goal.vector) (g.start, g.first) goal.pair_is) in
    record {
      state = goal.state;
      vector = goal.vector;
      reaches = path_reaches g cert.labels good.parents good.choices f.0 a.choices (follow j.0 f.0 a f.1 j.1) goal.state goal.vector goal.pair_is;
      at_goal = goal.goal_is;
      vector_is = is ∙ end;
    })
    answers (All-contains_itself answers)
