-- The pairs of a certificate's labels.
use Rattle.std.proofs.Common.{◌≡◌, ℕ, zero, suc, ◌+◌, ◌<◌, ◌≤◌, List, [], ◌∷◌, ◌++◌, length, refl, ap, sym, subst, ◌∙◌, arith, add-zero, take, drop, inl, inr, length-take}
use Rattle.std.specs.Prelude.{slice_get, Some, get_or}
use Rattle.std.proofs.lemmas.Option.{get_or_from_slice_get, same_Some, slice_get_within, slice_get_read}
use Rattle.std.proofs.Math.ListN.{length-append}
use Rattle.std.proofs.lemmas.List.{take-append-drop, take_more}
use Rattle.rulebook_order.specs.Graph.{Graph, pair_by, IsReached}
use Rattle.rulebook_order.specs.Certified.{IsLinked}
use Rattle.rulebook_order.proofs.Lists.{slice_get-append, slice_get-snoc, slice_get_some, slice_get-push-cases}
use Rattle.rulebook_order.proofs.Reached.{Built, start, extend}
use Rattle.certificate_text.specs.declared.certificate.CertLabel.{CertLabel}
use Rattle.certificate_checker.specs.GoodCertificate.{pair_of, pairs_after, pairs_of, ParentIsEarlier, HasChoice, Everywhere, HasLinks}

module _ {S : Type 0} (g : Graph S) where
  pub length-pairs_after : (ps : List (S × List ℕ)) (ls : List CertLabel) → length (pairs_after g ps ls) ≡ length ps + length ls
  length-pairs_after ps [] = omega arith
  length-pairs_after ps (l ∷ ls) = omega (arith, length-pairs_after (ps ++ pair_of g ps l ∷ []) ls, length-append ps (pair_of g ps l ∷ []))

  pub length-pairs_of : (ls : List CertLabel) → length (pairs_of g ls) ≡ length ls
  length-pairs_of [] = refl
  length-pairs_of (l ∷ ls) = omega (arith, length-pairs_after ((g.start, g.first) ∷ []) ls)

  pub slice_get-pairs_after : (ps : List (S × List ℕ)) (ls : List CertLabel) (i : ℕ) (p : S × List ℕ) → slice_get ps i ≡ Some p → slice_get (pairs_after g ps ls) i ≡ Some p
  slice_get-pairs_after ps [] i p h = h
  slice_get-pairs_after ps (l ∷ ls) i p h = slice_get-pairs_after (ps ++ pair_of g ps l ∷ []) ls i p (slice_get-append ps (pair_of g ps l ∷ []) i p h)

  -- what a label's pair is, from its parent's
  pub pair_at : (ps : List (S × List ℕ)) (ls : List CertLabel) (k : ℕ) (label : CertLabel) (p : S × List ℕ) → slice_get ls k ≡ Some label → slice_get (pairs_after g ps ls) label.parent ≡ Some p → label.parent < length ps + k → slice_get (pairs_after g ps ls) (length ps + k) ≡ Some (pair_by g p label.choice)
  pair_at ps [] k label p at e below = absurd cc
  pair_at ps (l ∷ ls) zero label p at e below =
      let same : l ≡ label = cc in
      let found = slice_get_some ps label.parent (omega arith) in
      let there = slice_get-pairs_after ps (l ∷ ls) label.parent found.0 found.1 in
      let same_pair : found.0 ≡ p = same_Some _ _ (sym there ∙ e) in
      let read = get_or_from_slice_get ps label.parent found.0 (g.start, g.first) found.1 in
      let last = slice_get-pairs_after (ps ++ pair_of g ps l ∷ []) ls (length ps) (pair_of g ps l) (slice_get-snoc ps (pair_of g ps l)) in
      let x : pair_of g ps l ≡ pair_by g p label.choice = rw (same, read, same_pair) refl in
      rw add-zero (last ∙ ap Some x)
  pair_at ps (l ∷ ls) (suc k) label p at e below =
      let n = length-append ps (pair_of g ps l ∷ []) in
      let ih = pair_at (ps ++ pair_of g ps l ∷ []) ls k label p at e (omega arith) in
      let m : length (ps ++ pair_of g ps l ∷ []) + k ≡ length ps + suc k = omega arith in
      rw m at ih

  -- the pair of a later label, from its parent's
  pub later_pair : (labels : List CertLabel) (k : ℕ) (label : CertLabel) (p : S × List ℕ) → slice_get labels k ≡ Some label → 0 < k → label.parent < k → slice_get (pairs_of g labels) label.parent ≡ Some p → slice_get (pairs_of g labels) k ≡ Some (pair_by g p label.choice)
  later_pair [] k label p at up below e = absurd cc
  later_pair (l ∷ ls) zero label p at up below e = absurd (omega arith)
  later_pair (l ∷ ls) (suc k) label p at up below e =
      let h = pair_at ((g.start, g.first) ∷ []) ls k label p at e (omega arith) in
      let m : 1 + k ≡ suc k = omega arith in
      rw m at h

  pub first_pair : (labels : List CertLabel) → 0 < length labels → slice_get (pairs_of g labels) 0 ≡ Some (g.start, g.first)
  first_pair [] h = absurd (omega arith)
  first_pair (l ∷ ls) h = slice_get-pairs_after ((g.start, g.first) ∷ []) ls 0 (g.start, g.first) refl

  -- where parents are earlier and choices exist, each label's pair is reached
  module _ (labels : List CertLabel) (parents : Everywhere (length labels) (ParentIsEarlier labels)) (choices : Everywhere (length labels) (HasChoice g (pairs_of g labels) labels)) where
    pub built_below : (n k : ℕ) → k < n → (s : S) (v : List ℕ) → slice_get (pairs_of g labels) k ≡ Some (s, v) → Built g s v
    built_below zero k h s v at = absurd (omega arith)
    built_below (suc n) zero h s v at =
        let inside = slice_get_within (pairs_of g labels) 0 (s, v) at in
        let e = first_pair labels (omega (arith, length-pairs_of labels)) in
        let pair : (g.start, g.first) ≡ (s, v) = same_Some _ _ (sym e ∙ at) in
        subst (λ (q : S × List ℕ). Built g q.0 q.1) pair start
    built_below (suc n) (suc k) h s v at =
        let inside = slice_get_within (pairs_of g labels) (suc k) (s, v) at in
        let here : suc k < length labels = omega (arith, length-pairs_of labels) in
        let l = slice_get_some labels (suc k) here in
        let below : l.0.parent < suc k = parents (suc k) here l.0 l.1 (omega arith) in
        let p = slice_get_some (pairs_of g labels) l.0.parent (omega arith) in
        let b : Built g p.0.0 p.0.1 = built_below n l.0.parent (omega arith) p.0.0 p.0.1 p.1 in
        let c : l.0.choice < g.choices p.0.0 = choices (suc k) here l.0 p.0.0 p.0.1 l.1 (omega arith) p.1 in
        let e = later_pair labels (suc k) l.0 p.0 l.1 (omega arith) below p.1 in
        let pair : pair_by g p.0 l.0.choice ≡ (s, v) = same_Some _ _ (sym e ∙ at) in
        subst (λ (q : S × List ℕ). Built g q.0 q.1) pair (extend b c)

    pub pair_built : (k : ℕ) (s : S) (v : List ℕ) → slice_get (pairs_of g labels) k ≡ Some (s, v) → Built g s v
    pair_built k s v at = built_below (suc k) k (omega arith) s v at

  pub pairs_after-append : (ps : List (S × List ℕ)) (xs ys : List CertLabel) → pairs_after g ps (xs ++ ys) ≡ pairs_after g (pairs_after g ps xs) ys
  pairs_after-append ps [] ys = refl
  pairs_after-append ps (x ∷ xs) ys = pairs_after-append (ps ++ pair_of g ps x ∷ []) xs ys

  -- one more label
  pub pairs_of-snoc : (xs : List CertLabel) (l : CertLabel) → 0 < length xs → pairs_of g (xs ++ l ∷ []) ≡ pairs_of g xs ++ pair_of g (pairs_of g xs) l ∷ []
  pairs_of-snoc [] l h = absurd (omega arith)
  pairs_of-snoc (x ∷ xs) l h = pairs_after-append ((g.start, g.first) ∷ []) xs (l ∷ [])

  -- a pair stays where it is when labels are added
  pub pairs_of-prefix : (xs ys : List CertLabel) (i : ℕ) (p : S × List ℕ) → slice_get (pairs_of g xs) i ≡ Some p → slice_get (pairs_of g (xs ++ ys)) i ≡ Some p
  pairs_of-prefix [] ys i p h = absurd cc
  pairs_of-prefix (x ∷ xs) ys i p h = subst (λ (q : List (S × List ℕ)). slice_get q i ≡ Some p) (sym (pairs_after-append ((g.start, g.first) ∷ []) xs ys)) (slice_get-pairs_after (pairs_after g ((g.start, g.first) ∷ []) xs) ys i p h)

  pub pairs_of-take : (labels : List CertLabel) (k i : ℕ) (p : S × List ℕ) → slice_get (pairs_of g (take k labels)) i ≡ Some p → slice_get (pairs_of g labels) i ≡ Some p
  pairs_of-take labels k i p h = let e = take-append-drop k labels in rw e at (pairs_of-prefix (take k labels) (drop k labels) i p h)

  -- one turn of the loop that makes the pairs
  module _ (labels : List CertLabel) (k : ℕ) (label : CertLabel) (ps : List (S × List ℕ)) (is : ps ≡ pairs_of g (take k labels)) (up : 0 < k) (inside : k < length labels) (at : label ≡ get_or labels k label) (parents : Everywhere (length labels) (ParentIsEarlier labels)) where
    label_is : slice_get labels k ≡ Some label
    label_is = slice_get_read labels (length labels) k label refl inside at

    pub early : label.parent < k
    early = parents k inside label label_is up

    pub length_pairs : length ps ≡ k
    length_pairs = omega (arith, ap length is, length-pairs_of (take k labels), length-take k labels)

    pub early_pair : label.parent < length ps
    early_pair = let a = early in let b = length_pairs in omega arith

  module _ (labels : List CertLabel) (k : ℕ) (label : CertLabel) (ps : List (S × List ℕ)) (is : ps ≡ pairs_of g (take k labels)) (up : 0 < k) (inside : k < length labels) (at : label ≡ get_or labels k label) (parents : Everywhere (length labels) (ParentIsEarlier labels)) (p : S × List ℕ) (read : p ≡ get_or ps label.parent p) where
    pub pair_is : slice_get ps label.parent ≡ Some p
    pair_is = slice_get_read ps (length ps) label.parent p refl (early_pair labels k label ps is up inside at parents) read

    full_pair : slice_get (pairs_of g labels) label.parent ≡ Some p
    full_pair = pairs_of-take labels k label.parent p (rw is at pair_is)

    pub pairs_more : ps ++ pair_by g p label.choice ∷ [] ≡ pairs_of g (take (k + 1) labels)
    pairs_more =
        let read' : get_or ps label.parent (g.start, g.first) ≡ p = get_or_from_slice_get ps label.parent p (g.start, g.first) pair_is in
        let t : take (k + 1) labels ≡ take k labels ++ label ∷ [] = take_more labels k label inside ∙ ap (λ x. take k labels ++ x ∷ []) (sym at) in
        let some : 0 < length (take k labels) = omega (arith, length-take k labels) in
        let s = pairs_of-snoc (take k labels) label some in
        let q : pair_of g ps label ≡ pair_by g p label.choice = rw read' refl in
        rw (t, s, ← is, q) refl

    pub HasChoice-here : label.choice < g.choices p.0 → HasChoice g (pairs_of g labels) labels k
    HasChoice-here h other s v at' up' e =
        let same : label ≡ other = same_Some _ _ (sym (label_is labels k label ps is up inside at parents) ∙ at') in
        let e' = rw (← same) at e in
        let pair : p ≡ (s, v) = same_Some _ _ (sym full_pair ∙ e') in
        let state : p.0 ≡ s = ap (λ q. q.0) pair in
        rw (← same, ← state) h

    pub no_choice : g.choices p.0 ≤ label.choice → HasChoice g (pairs_of g labels) labels k → ⊥
    no_choice h has = let b = has label p.0 p.1 (label_is labels k label ps is up inside at parents) up full_pair in omega arith

  -- one more pair that is reached
  pub reached_more : (ps : List (S × List ℕ)) (q : S × List ℕ) → ((i : ℕ) (s : S) (v : List ℕ) → slice_get ps i ≡ Some (s, v) → IsReached g s v) → IsReached g q.0 q.1 → (i : ℕ) (s : S) (v : List ℕ) → slice_get (ps ++ q ∷ []) i ≡ Some (s, v) → IsReached g s v
  reached_more ps q h r i s v at = elim (slice_get-push-cases ps q i (s, v) at) [
    | inl old ↦ h i s v old
    | inr new ↦ subst (λ (x : S × List ℕ). IsReached g x.0 x.1) new.1 r
  ]

  -- a label and its pair by their places
  pub HasLinks-here : (IsNoWorse : List ℕ → List ℕ → Type 0) (pairs : List (S × List ℕ)) (labels : List CertLabel) (k : ℕ) (label : CertLabel) (p : S × List ℕ) → slice_get labels k ≡ Some label → slice_get pairs k ≡ Some p → IsLinked g IsNoWorse pairs label.links p.0 p.1 → HasLinks g IsNoWorse pairs labels k
  HasLinks-here IsNoWorse pairs labels k label p label_at pair_at' h other s v at pat =
      subst (λ (q : S × List ℕ). IsLinked g IsNoWorse pairs other.links q.0 q.1) (same_Some _ _ (sym pair_at' ∙ pat))
      (subst (λ (l : CertLabel). IsLinked g IsNoWorse pairs l.links p.0 p.1) (same_Some _ _ (sym label_at ∙ at)) h)
