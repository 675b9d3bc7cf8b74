-- The pairs of a certificate's labels are those of the labels that it was made of.
use Rattle.std.proofs.Common.{◌≡◌, ◌≢◌, Bool, ℕ, inl, inr, append_assoc, append-nil, suc, ◌+◌, ◌<◌, ◌≤◌, List, [], ◌∷◌, ◌++◌, length, refl, ap, sym, subst, ◌∙◌, arith}
use Rattle.std.specs.Prelude.{Some, slice_get, slice_index_or, map, option_map, IsTrue}
use Rattle.std.proofs.lemmas.Option.{same_Some, slice_get_within, slice_get-map, get_or_from_slice_get}
use Rattle.std.proofs.lemmas.List.{length-map}
use Rattle.std.proofs.lemmas.List.Elements.{All-contains}
use Rattle.std.proofs.Math.ListN.{length-append}
use Rattle.rulebook_order.specs.Certified.{ComesFrom, IsLinked, IsGoalLabel, HasGoalLink, goals_in, finished_at, finished_vectors}
use Rattle.rulebook_order.specs.Answer.{IsAnswer, IsAnswerList}
use Rattle.rulebook_order.proofs.Reached.{width_attained}
use Rattle.std.proofs.lemmas.Bool.{cases_Bool, both_ways}
use Rattle.rulebook_order.specs.Graph.{Graph, pair_by}
use Rattle.rulebook_order.specs.StepGraph.{IsStepGraph}
use Rattle.rulebook_order.specs.VectorOrder.{Holds, IsVectorOrder}
use Rattle.rulebook_order.proofs.Lists.{slice_get_some, slice_get-append, Contains-from_slice_get, pair_at}
use Rattle.label_search.specs.declared.label.Label.{Label}
use Rattle.label_search.specs.declared.label.Found.{Found}
use Rattle.label_search.specs.Found.{HaveParents, HasLinks, AreFinals, AreGoalLinks}
use Rattle.label_search.specs.Found as found
use Rattle.certificate_text.specs.declared.certificate.CertLabel.{CertLabel}
use Rattle.domination_proof.specs.Copies.{cert_label, cert_of}
use Rattle.certificate_checker.specs.GoodCertificate.{pair_of, pairs_after, pairs_of, IsGood, Everywhere, HasChoice, FinalIsAtGoal, StandsApart, HasNoSurplus}
use Rattle.certificate_checker.specs.GoodCertificate.{HasLinks as HasCertLinks}
use Rattle.domination_proof.specs.Shown.{IsShown}

-- a label of the certificate is one of those that it was made of
pub record IsCopy {S : Type 0} (labels : List (Label S)) (k : ℕ) (label : CertLabel) : Type 0 where
  pub source : Label S
  pub source_is : slice_get labels k ≡ Some source
  pub copy_is : cert_label source ≡ label

pub copy_at : {S : Type 0} (labels : List (Label S)) (k : ℕ) (label : CertLabel) → slice_get (map cert_label labels) k ≡ Some label → IsCopy labels k label
copy_at {S} labels k label at =
    let inside = slice_get_within (map cert_label labels) k label at in
    let source = slice_get_some labels k (omega (arith, length-map labels (λ (x : Label S). cert_label x))) in
    record { source = source.0; source_is = source.1; copy_is = same_Some _ _ (sym (slice_get-map cert_label labels k ∙ ap (option_map cert_label) source.1) ∙ at) }

slice_get-seam : {X : Type 0} (xs : List X) (x : X) (ys : List X) → slice_get (xs ++ x ∷ ys) (length xs) ≡ Some x
slice_get-seam [] x ys = refl
slice_get-seam (y ∷ xs) x ys = slice_get-seam xs x ys

module _ {S : Type 0} (g : Graph S) where
  -- the pairs of the labels that follow, where each comes from an earlier one
  after : (before rest : List (S × List ℕ)) (labels : List CertLabel) → length rest ≡ length labels → ((i : ℕ) (label : CertLabel) → slice_get labels i ≡ Some label → ComesFrom g (before ++ rest) (length before + i) label.parent label.choice) → pairs_after g before labels ≡ before ++ rest
  after before [] [] size come = sym (append-nil before)
  after before (p ∷ ps) [] size come = absurd (omega arith)
  after before [] (l ∷ ls) size come = absurd (omega arith)
  after before (p ∷ ps) (l ∷ ls) size come =
      let h = come 0 l refl in
      let z : length before + 0 ≡ length before = omega arith in
      let leads = subst (λ n. slice_get (before ++ p ∷ ps) n ≡ Some (pair_by g (h.state, h.vector) l.choice)) z h.leads in
      let p_is : p ≡ pair_by g (h.state, h.vector) l.choice = same_Some _ _ (sym (slice_get-seam before p ps) ∙ leads) in
      let q = slice_get_some before l.parent (let e = h.earlier in omega arith) in
      let q_is : q.0 ≡ (h.state, h.vector) = same_Some _ _ (sym (slice_get-append before (p ∷ ps) l.parent q.0 q.1) ∙ h.parent_is) in
      let read : slice_index_or before l.parent (g.start, g.first) ≡ (h.state, h.vector) = get_or_from_slice_get before l.parent q.0 (g.start, g.first) q.1 ∙ q_is in
      let pair : pair_of g before l ≡ p = ap (λ (x : S × List ℕ). pair_by g x l.choice) read ∙ sym p_is in
      let assoc : (before ++ p ∷ []) ++ ps ≡ before ++ p ∷ ps = append_assoc before (p ∷ []) ps in
      let size' : length (before ++ p ∷ []) ≡ length before + 1 = length-append before (p ∷ []) in
      let rest = after (before ++ p ∷ []) ps ls (omega arith)
      (λ i label at.
      let e : length before + suc i ≡ length (before ++ p ∷ []) + i = omega (arith, size') in
      subst (λ xs. ComesFrom g xs (length (before ++ p ∷ []) + i) label.parent label.choice) (sym assoc) (subst (λ n. ComesFrom g (before ++ p ∷ ps) n label.parent label.choice) e (come (suc i) label at))) in
      ap (λ x. pairs_after g (before ++ x ∷ []) ls) pair ∙ (rest ∙ assoc)

  pub same_pairs : (labels : List (Label S)) → HaveParents g labels → pairs_of g (map cert_label labels) ≡ found.pairs_of labels
  same_pairs [] parents = absurd (let h = parents.some in omega arith)
  same_pairs (l ∷ ls) parents =
      let first = parents.first l refl in
      let pair : (l.state, l.vector) ≡ (g.start, g.first) = ap (λ s. (s, l.vector)) first.state_is ∙ ap (λ v. (g.start, v)) first.vector_is in
      after ((g.start, g.first) ∷ []) (found.pairs_of ls) (map cert_label ls) (length-map ls (λ (x : Label S). (x.state, x.vector)) ∙ sym (length-map ls (λ (x : Label S). cert_label x)))
      (λ i label at.
      let c = copy_at ls i label at in
      let come = parents.later (suc i) c.source (omega arith) c.source_is in
      let e : suc i ≡ 1 + i = omega arith in
      let moved = subst (λ n. ComesFrom g (found.pairs_of (l ∷ ls)) n c.source.parent c.source.choice) e come in
      let there = subst (λ (x : S × List ℕ). ComesFrom g (x ∷ found.pairs_of ls) (1 + i) c.source.parent c.source.choice) pair moved in
      subst (λ (x : CertLabel). ComesFrom g ((g.start, g.first) ∷ found.pairs_of ls) (1 + i) x.parent x.choice) c.copy_is there)
      ∙ ap (λ x. x ∷ found.pairs_of ls) (sym pair)

  -- the pair of a label, by its place
  pub pair_there : (labels : List (Label S)) (k : ℕ) (label : Label S) → slice_get labels k ≡ Some label → slice_get (found.pairs_of labels) k ≡ Some (label.state, label.vector)
  pair_there labels k label at = slice_get-map (λ (x : Label S). (x.state, x.vector)) labels k ∙ ap (option_map (λ (x : Label S). (x.state, x.vector))) at

  -- of the vectors of an answer, those at two places stand apart
  module _ (laws : IsStepGraph g) (no_worse : List ℕ → List ℕ → Bool) (order : IsVectorOrder g.width no_worse) where
    not_no_worse : (v w : List ℕ) → IsAnswer g (Holds no_worse) v → IsAnswer g (Holds no_worse) w → v ≢ w → ¬ IsTrue (no_worse v w)
    not_no_worse v w a b differ le =
        elim (cases_Bool (no_worse w v)) [
          | inl back ↦ differ (order.antisymmetric v w (width_attained g laws v a.has) (width_attained g laws w b.has) le back)
          | inr worse ↦ b.unbeaten v a.has (record { no_worse = le; one_way = λ back. both_ways (no_worse w v) worse back })
        ]

    pub answers_apart : (pairs : List (S × List ℕ)) (finals : List ℕ) → IsAnswerList g (Holds no_worse) (finished_vectors g pairs finals) → (j : ℕ) → StandsApart g (Holds no_worse) pairs finals j
    answers_apart pairs finals answer j i a b below at_i at_j =
        let va : slice_get (finished_vectors g pairs finals) i ≡ Some (finished_at g pairs a) = slice_get-map (finished_at g pairs) finals i ∙ ap (option_map (finished_at g pairs)) at_i in
        let vb : slice_get (finished_vectors g pairs finals) j ≡ Some (finished_at g pairs b) = slice_get-map (finished_at g pairs) finals j ∙ ap (option_map (finished_at g pairs)) at_j in
        let is_a = (answer.exact (finished_at g pairs a)).0 (Contains-from_slice_get (finished_vectors g pairs finals) i (finished_at g pairs a) va) in
        let is_b = (answer.exact (finished_at g pairs b)).0 (Contains-from_slice_get (finished_vectors g pairs finals) j (finished_at g pairs b) vb) in
        let differ = pair_at (λ v w. v ≢ w) (finished_vectors g pairs finals) answer.once i j (finished_at g pairs a) (finished_at g pairs b) below va vb in
        (not_no_worse (finished_at g pairs a) (finished_at g pairs b) is_a is_b differ, not_no_worse (finished_at g pairs b) (finished_at g pairs a) is_b is_a (λ e. differ (sym e)))

    -- what a search finds makes a good certificate
    pub IsGood-found : (what : Found S) → IsShown g (Holds no_worse) what → IsGood g (Holds no_worse) (cert_of what)
    IsGood-found what shown =
        let labels = what.labels in
        let copies = map cert_label labels in
        let same = sym (same_pairs labels shown.parents) in
        let size = length-map labels (λ (x : Label S). cert_label x) in
        let links_at : (k : ℕ) (x : Label S) → slice_get labels k ≡ Some x → HasLinks g (Holds no_worse) (found.pairs_of labels) x = λ k x at. All-contains (HasLinks g (Holds no_worse) (found.pairs_of labels)) labels x shown.links (Contains-from_slice_get labels k x at) in
        record {
          first = (let h = shown.parents.some in omega (arith, size));
          parents = λ k inside label at up. (let c = copy_at labels k label at in let h = shown.parents.later k c.source up c.source_is in subst (λ (x : CertLabel). x.parent < k) c.copy_is h.earlier);
          choices = subst (λ ps. Everywhere (length copies) (HasChoice g ps copies)) same (λ k inside label s v at up there.
              let c = copy_at labels k label at in
              let h = shown.parents.later k c.source up c.source_is in
              let there' = subst (λ (x : CertLabel). slice_get (found.pairs_of labels) x.parent ≡ Some (s, v)) (sym c.copy_is) there in
              let pair : (h.state, h.vector) ≡ (s, v) = same_Some _ _ (sym h.parent_is ∙ there') in
              let below : c.source.choice < g.choices s = subst (λ (p : S × List ℕ). c.source.choice < g.choices p.0) pair h.choice_below in
              subst (λ (x : CertLabel). x.choice < g.choices s) c.copy_is below);
          links = subst (λ ps. Everywhere (length copies) (HasCertLinks g (Holds no_worse) ps copies)) same (λ k inside label s v at there.
              let c = copy_at labels k label at in
              let pair : (c.source.state, c.source.vector) ≡ (s, v) = same_Some _ _ (sym (pair_there labels k c.source c.source_is) ∙ there) in
              let linked = subst (λ (p : S × List ℕ). IsLinked g (Holds no_worse) (found.pairs_of labels) c.source.links p.0 p.1) pair (links_at k c.source c.source_is).linked in
              subst (λ (x : CertLabel). IsLinked g (Holds no_worse) (found.pairs_of labels) x.links s v) c.copy_is linked);
          finals = subst (λ ps. Everywhere (length what.finals) (FinalIsAtGoal g ps what.finals)) same (λ j inside final at. All-contains (IsGoalLabel g (found.pairs_of labels)) what.finals final shown.finals.at_goal (Contains-from_slice_get what.finals j final at));
          goal_links = subst (λ ps. Everywhere (length copies) (HasGoalLink g (Holds no_worse) ps what.finals what.goal_links)) same (λ k inside. shown.goal_links.linked k);
          apart = subst (λ ps. Everywhere (length what.finals) (StandsApart g (Holds no_worse) ps what.finals)) same (λ j inside. answers_apart (found.pairs_of labels) what.finals shown.finals.answer j);
          no_surplus = subst (λ ps. Everywhere (length copies) (HasNoSurplus g ps copies)) same (λ k inside label s v at there.
              let c = copy_at labels k label at in
              let pair : (c.source.state, c.source.vector) ≡ (s, v) = same_Some _ _ (sym (pair_there labels k c.source c.source_is) ∙ there) in
              let count : length c.source.links ≡ g.choices s = subst (λ (p : S × List ℕ). length c.source.links ≡ g.choices p.0) pair (links_at k c.source c.source_is).count in
              let links : length c.source.links ≡ length label.links = ap (λ (x : CertLabel). length x.links) c.copy_is in
              omega (arith, count, links));
          no_more_goal_links = subst (λ ps. length what.goal_links ≤ goals_in g ps) same (omega (arith, shown.goal_links.count));
        }
