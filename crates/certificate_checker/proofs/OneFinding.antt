-- A certificate is good or fails at one condition and label, and its answers and their lists are its own.
use Rattle.std.proofs.Common.{◌≡◌, ℕ, ◌≤◌, List, [], ◌∷◌, ◌++◌, length, refl, ap, sym, ◌∙◌, subst, inl, inr, arith, ◌⊎◌, suc}
use Rattle.std.specs.Prelude.{Some, slice_get, map, drop}
use Rattle.std.proofs.lemmas.Bool.{cases_order}
use Rattle.std.proofs.lemmas.Option.{same_Some}
use Rattle.rulebook_order.specs.Certified.{HasGoalLink, goals_in, finished_at}
use Rattle.rulebook_order.specs.Graph.{Graph}
use Rattle.certificate_text.specs.declared.certificate.CertLabel.{CertLabel}
use Rattle.certificate_text.specs.declared.certificate.Certificate.{Certificate}
use Rattle.certificate_checker.specs.GoodCertificate.{pairs_of, HasFirst, ParentIsEarlier, HasChoice, HasLinks, FinalIsAtGoal, StandsApart, HasNoSurplus, Everywhere, IsGood, answers_of, LeadsToLabel, start, then}
use Rattle.certificate_checker.specs.Failing.{FailsFirst, AreLinked, AreAnswered, Fails, no_label, late_parent, no_choice, no_link, stray_final, no_goal_link, crowded_final, surplus_links, surplus_goal_links}
use Rattle.certificate_checker.specs.declared.checked.Attained.{Attained}
use Rattle.certificate_checker.specs.Answers.{vectors_of, FollowParents}

-- there is at most one number with one label
abbrev Once : (ℕ → ℕ → Type 0) → Type 0
Once F = (n k m l : ℕ) → F n k → F m l → (n ≡ m) × (k ≡ l)

-- the condition fails, or it holds and one of the rest fails
abbrev Next : Type 0 → (ℕ → ℕ → Type 0) → (ℕ → ℕ → Type 0) → ℕ → ℕ → Type 0
Next M F R n k = F n k ⊎ (M × R n k)

Next-once : (M : Type 0) (F R : ℕ → ℕ → Type 0) → ((n k : ℕ) → F n k → ¬ M) → Once F → Once R → Once (Next M F R)
Next-once M F R apart one_F one_R n k m l (inl f) (inl h) = one_F n k m l f h
Next-once M F R apart one_F one_R n k m l (inl f) (inr h) = absurd (apart n k f h.0)
Next-once M F R apart one_F one_R n k m l (inr f) (inl h) = absurd (apart m l h f.0)
Next-once M F R apart one_F one_R n k m l (inr f) (inr h) = one_R n k m l f.1 h.1

Next-none : (M : Type 0) (F R : ℕ → ℕ → Type 0) → ((n k : ℕ) → F n k → ¬ M) → M → ((n k : ℕ) → ¬ R n k) → (n k : ℕ) → ¬ Next M F R n k
Next-none M F R apart met none n k (inl f) = apart n k f met
Next-none M F R apart met none n k (inr h) = none n k h.1

first_once : (n : ℕ) (A : ℕ → Type 0) (j k : ℕ) → FailsFirst n A j → FailsFirst n A k → j ≡ k
first_once n A j k f h = elim (cases_order j k) [
  | inl same ↦ same
  | inr (inl below) ↦ absurd (f.fails (h.before j below))
  | inr (inr above) ↦ absurd (h.fails (f.before k above))
]

-- a condition on the whole, which names this label
abbrev Whole : ℕ → ℕ → Type 0 → ℕ → ℕ → Type 0
Whole number label M n k = (n ≡ number) × (k ≡ label) × ¬ M

-- a condition on labels, which names the first at which it fails
abbrev AtLabel : ℕ → ℕ → (ℕ → Type 0) → ℕ → ℕ → Type 0
AtLabel number size A n k = (n ≡ number) × FailsFirst size A k

-- a condition on places of finals, which names the final at the first place at which it fails
abbrev AtFinal : ℕ → List ℕ → (ℕ → Type 0) → ℕ → ℕ → Type 0
AtFinal number finals A n k = (n ≡ number) × (j : ℕ) × FailsFirst (length finals) A j × (slice_get finals j ≡ Some k)

Whole-once : (number label : ℕ) (M : Type 0) → Once (Whole number label M)
Whole-once number label M n k m l f h = (f.0 ∙ sym h.0, f.1 ∙ sym h.1)

AtLabel-once : (number size : ℕ) (A : ℕ → Type 0) → Once (AtLabel number size A)
AtLabel-once number size A n k m l f h = (f.0 ∙ sym h.0, first_once size A k l f.1 h.1)

AtFinal-once : (number : ℕ) (finals : List ℕ) (A : ℕ → Type 0) → Once (AtFinal number finals A)
AtFinal-once number finals A n k m l f h =
    let same = first_once (length finals) A f.1 h.1 f.2 h.2 in
    (f.0 ∙ sym h.0, same_Some k l (sym f.3 ∙ (ap (slice_get finals) same ∙ h.3)))

AtLabel-apart : (number size : ℕ) (A : ℕ → Type 0) (n k : ℕ) → AtLabel number size A n k → ¬ Everywhere size A
AtLabel-apart number size A n k f all = f.1.fails (all k f.1.below)

AtFinal-apart : (number : ℕ) (finals : List ℕ) (A : ℕ → Type 0) (n k : ℕ) → AtFinal number finals A n k → ¬ Everywhere (length finals) A
AtFinal-apart number finals A n k f all = f.2.fails (all f.1 f.2.below)

module _ {S : Type 0} (g : Graph S) (IsNoWorse : List ℕ → List ℕ → Type 0) (cert : Certificate) where
  abbrev count : ℕ
  count = length cert.labels

  abbrev pairs : List (S × List ℕ)
  pairs = pairs_of g cert.labels

  abbrev Parent : ℕ → Type 0
  Parent = ParentIsEarlier cert.labels

  abbrev Choice : ℕ → Type 0
  Choice = HasChoice g pairs cert.labels

  abbrev Link : ℕ → Type 0
  Link = HasLinks g IsNoWorse pairs cert.labels

  abbrev Final : ℕ → Type 0
  Final = FinalIsAtGoal g pairs cert.finals

  abbrev GoalLink : ℕ → Type 0
  GoalLink = HasGoalLink g IsNoWorse pairs cert.finals cert.goal_links

  abbrev Apart : ℕ → Type 0
  Apart = StandsApart g IsNoWorse pairs cert.finals

  abbrev NoSurplus : ℕ → Type 0
  NoSurplus = HasNoSurplus g pairs cert.labels

  abbrev FewGoalLinks : Type 0
  FewGoalLinks = length cert.goal_links ≤ goals_in g pairs

  -- what fails from a condition on, the last one first
  abbrev From9 : ℕ → ℕ → Type 0
  From9 = Whole 8 count FewGoalLinks

  abbrev From8 : ℕ → ℕ → Type 0
  From8 = Next (Everywhere count NoSurplus) (AtLabel 8 count NoSurplus) From9

  abbrev From7 : ℕ → ℕ → Type 0
  From7 = Next (Everywhere (length cert.finals) Apart) (AtFinal 7 cert.finals Apart) From8

  abbrev From6 : ℕ → ℕ → Type 0
  From6 = Next (Everywhere count GoalLink) (AtLabel 6 count GoalLink) From7

  abbrev From5 : ℕ → ℕ → Type 0
  From5 = Next (Everywhere (length cert.finals) Final) (AtFinal 5 cert.finals Final) From6

  abbrev From4 : ℕ → ℕ → Type 0
  From4 = Next (Everywhere count Link) (AtLabel 4 count Link) From5

  abbrev From3 : ℕ → ℕ → Type 0
  From3 = Next (Everywhere count Choice) (AtLabel 3 count Choice) From4

  abbrev From2 : ℕ → ℕ → Type 0
  From2 = Next (Everywhere count Parent) (AtLabel 2 count Parent) From3

  abbrev From1 : ℕ → ℕ → Type 0
  From1 = Next (HasFirst cert.labels) (Whole 1 0 (HasFirst cert.labels)) From2

  past4 : {n k : ℕ} → AreLinked g IsNoWorse cert.labels → From5 n k → From1 n k
  past4 l f = inr (l.first, inr (l.parents, inr (l.choices, inr (l.links, f))))

  past7 : {n k : ℕ} → AreLinked g IsNoWorse cert.labels → AreAnswered g IsNoWorse cert → From8 n k → From1 n k
  past7 l a f = past4 l (inr (a.finals, inr (a.goal_links, inr (a.apart, f))))

  in_order : (n k : ℕ) → Fails g IsNoWorse cert n k → From1 n k
  in_order n k (no_label f) = inl (refl, refl, f)
  in_order n k (late_parent j first f) = inr (first, inl (refl, f))
  in_order n k (no_choice j first parents f) = inr (first, inr (parents, inl (refl, f)))
  in_order n k (no_link j first parents choices f) = inr (first, inr (parents, inr (choices, inl (refl, f))))
  in_order n k (stray_final j final linked f at) = past4 linked (inl (refl, j, f, at))
  in_order n k (no_goal_link j linked finals f) = past4 linked (inr (finals, inl (refl, f)))
  in_order n k (crowded_final j final linked finals goal_links f at) = past4 linked (inr (finals, inr (goal_links, inl (refl, j, f, at))))
  in_order n k (surplus_links j linked answered f) = past7 linked answered (inl (refl, f))
  in_order n k (surplus_goal_links linked answered links f) = past7 linked answered (inr (links, (refl, refl, f)))

  whole_apart : (number label : ℕ) (M : Type 0) (n k : ℕ) → Whole number label M n k → ¬ M
  whole_apart number label M n k f = f.2

  once1 : Once From1
  once1 = Next-once _ _ From2 (whole_apart 1 0 (HasFirst cert.labels)) (Whole-once 1 0 (HasFirst cert.labels))
      (Next-once _ _ From3 (AtLabel-apart 2 count Parent) (AtLabel-once 2 count Parent)
      (Next-once _ _ From4 (AtLabel-apart 3 count Choice) (AtLabel-once 3 count Choice)
      (Next-once _ _ From5 (AtLabel-apart 4 count Link) (AtLabel-once 4 count Link)
      (Next-once _ _ From6 (AtFinal-apart 5 cert.finals Final) (AtFinal-once 5 cert.finals Final)
      (Next-once _ _ From7 (AtLabel-apart 6 count GoalLink) (AtLabel-once 6 count GoalLink)
      (Next-once _ _ From8 (AtFinal-apart 7 cert.finals Apart) (AtFinal-once 7 cert.finals Apart)
      (Next-once _ _ From9 (AtLabel-apart 8 count NoSurplus) (AtLabel-once 8 count NoSurplus) (Whole-once 8 count FewGoalLinks))))))))

  -- one condition fails first, at one label
  pub Fails-once : (number label other_number other_label : ℕ) → Fails g IsNoWorse cert number label → Fails g IsNoWorse cert other_number other_label → (number ≡ other_number) × (label ≡ other_label)
  Fails-once n k m l f h = once1 n k m l (in_order n k f) (in_order m l h)

  -- nothing fails where the certificate is good
  pub Fails-not_good : IsGood g IsNoWorse cert → (number label : ℕ) → ¬ Fails g IsNoWorse cert number label
  Fails-not_good good n k f =
      Next-none _ _ From2 (whole_apart 1 0 (HasFirst cert.labels)) good.first
      (Next-none _ _ From3 (AtLabel-apart 2 count Parent) good.parents
      (Next-none _ _ From4 (AtLabel-apart 3 count Choice) good.choices
      (Next-none _ _ From5 (AtLabel-apart 4 count Link) good.links
      (Next-none _ _ From6 (AtFinal-apart 5 cert.finals Final) good.finals
      (Next-none _ _ From7 (AtLabel-apart 6 count GoalLink) good.goal_links
      (Next-none _ _ From8 (AtFinal-apart 7 cert.finals Apart) good.apart
      (Next-none _ _ From9 (AtLabel-apart 8 count NoSurplus) good.no_surplus (λ a b h. h.2 good.no_more_goal_links)))))))) n k (in_order n k f)

-- one list of choices leads to a label
pub LeadsToLabel-once : (labels : List CertLabel) (k : ℕ) (xs ys : List ℕ) → LeadsToLabel labels k xs → LeadsToLabel labels k ys → xs ≡ ys
LeadsToLabel-once labels k xs ys start start = refl
LeadsToLabel-once labels k xs ys start (then n label cs up at lead) = absurd (omega arith)
LeadsToLabel-once labels k xs ys (then n label cs up at lead) start = absurd (omega arith)
LeadsToLabel-once labels k xs ys (then n label cs up at lead) (then m other ds up' at' lead') =
    let same : label ≡ other = same_Some label other (sym at ∙ at') in
    let there = subst (λ (x : CertLabel). LeadsToLabel labels x.parent ds) (sym same) lead' in
    ap (λ zs. zs ++ label.choice ∷ []) (LeadsToLabel-once labels label.parent cs ds lead there) ∙ ap (λ (x : CertLabel). ds ++ x.choice ∷ []) same

abbrev pub with_parts : List ℕ → List ℕ → Attained
with_parts v cs = record { vector = v; choices = cs }

-- the answers with their lists are given by the finals
same_answers : (labels : List CertLabel) (end : ℕ → List ℕ) (finals : List ℕ) (xs ys : List Attained) → vectors_of xs ≡ map end finals → vectors_of ys ≡ map end finals
    → FollowParents labels finals xs → FollowParents labels finals ys → xs ≡ ys
same_answers labels end [] [] [] vx vy fx fy = refl
same_answers labels end [] [] (y ∷ ys) vx vy fx fy = absurd cc
same_answers labels end [] (x ∷ xs) ys vx vy fx fy = absurd cc
same_answers labels end (f ∷ fs) [] ys vx vy fx fy = absurd cc
same_answers labels end (f ∷ fs) (x ∷ xs) [] vx vy fx fy = absurd cc
same_answers labels end (f ∷ fs) (x ∷ xs) (y ∷ ys) vx vy fx fy =
    let vector : x.vector ≡ y.vector = same_Some x.vector y.vector (ap (λ (vs : List (List ℕ)). slice_get vs 0) (vx ∙ sym vy)) in
    let choices : x.choices ≡ y.choices = LeadsToLabel-once labels f x.choices y.choices (fx 0 f x refl refl) (fy 0 f y refl refl) in
    let head : x ≡ y = ap (λ (v : List ℕ). with_parts v x.choices) vector ∙ ap (λ (cs : List ℕ). with_parts y.vector cs) choices in
    let tail : xs ≡ ys = same_answers labels end fs xs ys (ap (λ (vs : List (List ℕ)). drop 1 vs) vx) (ap (λ (vs : List (List ℕ)). drop 1 vs) vy) (λ j final answer at there. fx (suc j) final answer at there) (λ j final answer at there. fy (suc j) final answer at there) in
    ap (λ z. z ∷ xs) head ∙ ap (λ zs. y ∷ zs) tail

pub answers_once : {S : Type 0} (g : Graph S) (cert : Certificate) (xs ys : List Attained) → vectors_of xs ≡ answers_of g cert → vectors_of ys ≡ answers_of g cert
    → FollowParents cert.labels cert.finals xs → FollowParents cert.labels cert.finals ys → xs ≡ ys
answers_once g cert xs ys = same_answers cert.labels (finished_at g (pairs_of g cert.labels)) cert.finals xs ys
