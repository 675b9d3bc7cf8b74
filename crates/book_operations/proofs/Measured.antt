-- What is measured of a book is carried by what is measured of its child.
use Rattle.std.specs.Prelude.{◌≡◌, ℕ, ◌+◌, ◌*◌, ◌<◌, ◌≤◌, Bool, true, false, List, [], ◌∷◌, length, map, take, slice_index}
use Rattle.std.specs.List.{filter, flat_map, sum_by}
use Rattle.std.proofs.Common.{cond, ◌∙◌, ⊎_elim, refl, sym, ap, subst, zero, suc, arith}
use Rattle.std.proofs.lemmas.Bool.{both_ways, cases_Bool, cond-true, cond-false}
use Rattle.std.proofs.lemmas.Bool.Decides.{eqb_tells}
use Rattle.std.proofs.lemmas.List.{get_or-map, length-map, take_all}
use Rattle.std.proofs.lemmas.List.Sums.{sum_by-append, sum_by-cons, sum_by_more}
use Rattle.rule_language.specs.Books.{nameless, IsBook}
use Rattle.rule_language.specs.Writing.{name_at}
use Rattle.rule_language.specs.declared.book.Book.{Book}
use Rattle.rule_language.specs.declared.book.Rule.{Rule}
use Rattle.rule_language.specs.declared.part.Part.{Part}
use Rattle.book_operations.specs.Aggregation.{IsSumBy, MergesRules}
use Rattle.book_operations.specs.Derivation.{share, Carries}
use Rattle.book_operations.specs.Images.{rule_at, HasEqual, is_new, IsNew}
use Rattle.book_operations.specs.Measures.{IsMeasure, rule_amount, measured}
use Rattle.book_operations.specs.Same.{scaled}
use Rattle.book_operations.specs.SumBelow.{sum_below}
use Rattle.book_operations.specs.Tests.{size_of, HasRulesOf, image, becomes, once}
use Rattle.book_operations.proofs.Merged.{one-place, merged-image, kept-image}
use Rattle.book_operations.proofs.Placed.{image-named, equal-named, one_rule}
use Rattle.book_operations.proofs.Shares.{share-here, share-elsewhere, sum_below-one, Carries-from_kept}

module _ (amount : Part → ℕ) where
  measured-at : (rules : List Rule) (r : ℕ) → r < length rules → slice_index (map (rule_amount amount) rules) r ≡ rule_amount amount (rule_at rules r)
  measured-at rules r h = get_or-map (rule_amount amount) rules r nameless 0 h

-- ---- kept rules

module _ (parent child : Book) (book : IsBook parent) (child_book : IsBook child) where
  -- a rule that has an equal becomes it
  equal-image : (r : ℕ) → r < size_of parent → HasEqual parent.rules child.rules r → (image parent child r < size_of child) × (rule_at child.rules (image parent child r) ≡ rule_at parent.rules r)
  equal-image r h equal =
      let named = image-named parent.rules child.rules r (equal-named parent.rules child.rules r equal) in
      let same = one_rule child.rules child_book.different equal.0 (image parent child r) equal.1 named.0 (ap (λ (q : Rule). q.name) equal.2 ∙ sym named.1) in
      (named.0, subst (λ (k : ℕ). rule_at child.rules k ≡ rule_at parent.rules r) same equal.2)

  -- no two rules that have their names in the child become one
  alone : (k r : ℕ) → k < size_of parent → r < size_of parent → ¬ IsNew parent.rules child.rules k → ¬ IsNew parent.rules child.rules r → image parent child k ≡ image parent child r → k ≡ r
  alone k r hk hr old_k old_r e =
      let nk = image-named parent.rules child.rules k old_k in
      let nr = image-named parent.rules child.rules r old_r in
      one_rule parent.rules book.different k r hk hr (sym nk.1 ∙ ap (name_at child.rules) e ∙ nr.1)

  one-choice : (t : Bool) → ◌≡◌ {A = ℕ} (cond t 1 1) 1
  one-choice true = refl
  one-choice false = refl

  pub kept-measured : HasRulesOf child parent → (amount : Part → ℕ) → Carries (size_of parent) (size_of child) (becomes parent child once) (measured amount parent) (measured amount child)
  kept-measured kept amount =
      Carries-from_kept (size_of parent) (size_of child) (becomes parent child once) (measured amount parent) (measured amount child)
      (length-map parent.rules (rule_amount amount)) (length-map child.rules (rule_amount amount))
      (λ k r hk hr e. alone k r hk hr (equal-named parent.rules child.rules k (kept k hk)) (equal-named parent.rules child.rules r (kept r hr)) e)
      (λ r. one-choice (is_new child.rules (rule_at parent.rules r)))
      (λ r h.
      let at = equal-image r h (kept r h) in
      measured-at amount child.rules (image parent child r) at.0 ∙ ap (rule_amount amount) at.1 ∙ sym (measured-at amount parent.rules r h))

-- ---- sums

sum_below-same : (f g : ℕ → ℕ) (n : ℕ) → ((k : ℕ) → k < n → f k ≡ g k) → sum_below f n ≡ sum_below g n
sum_below-same f g zero h = refl
sum_below-same f g (suc n) h = omega (arith, sum_below-same f g n (λ k lt. h k (omega (arith, lt))), h n (omega arith))

sum_below-take : (g : Rule → ℕ) (rules : List Rule) (n : ℕ) → n ≤ length rules → sum_below (λ k. g (rule_at rules k)) n ≡ sum_by g (take n rules)
sum_below-take g rules zero le = refl
sum_below-take g rules (suc n) le =
    let more : sum_by g (take (n + 1) rules) ≡ sum_by g (take n rules) + g (rule_at rules n) = sum_by_more g rules n nameless (omega (arith, le)) in
    let next : suc n ≡ n + 1 = omega arith in
    subst (λ (m : ℕ). sum_below (λ k. g (rule_at rules k)) n + g (rule_at rules n) ≡ sum_by g (take m rules)) (sym next)
    (omega (arith, sum_below-take g rules n (omega (arith, le)), more))

module _ (amount : Part → ℕ) (measure : IsMeasure amount) where
  scaled-sum : (times : ℕ) (parts : List Part) → sum_by amount (map (scaled times) parts) ≡ times * sum_by amount parts
  scaled-sum times [] = grind arith
  scaled-sum times (p ∷ ps) = together (amount (scaled times p)) (sum_by amount (map (scaled times) ps)) times (amount p) (sum_by amount ps) _ _ (sum_by-cons amount (scaled times p) (map (scaled times) ps)) (sum_by-cons amount p ps) (measure.scales times p) (scaled-sum times ps) where
    together : (a b t v w s u : ℕ) → s ≡ a + b → u ≡ v + w → a ≡ t * v → b ≡ t * w → s ≡ t * u
    together a b t v w s u e f g h = e ∙ grind (arith, g, h) ∙ ap (λ (z : ℕ). t * z) (sym f)

  abbrev given : List Rule → (List ℕ → ℕ) → Rule → ℕ
  given others times rule = cond (is_new others rule) (times rule.name * rule_amount amount rule) 0

  abbrev summed : (List ℕ → ℕ) → List Rule → List Part
  summed times rules = flat_map (λ (rule : Rule). map (scaled (times rule.name)) rule.parts) rules

  sum-given : (others : List Rule) (times : List ℕ → ℕ) (rules : List Rule) → sum_by amount (summed times (filter (is_new others) rules)) ≡ sum_by (given others times) rules
  sum-given others times [] = refl
  sum-given others times (r ∷ rs) =
      by-cons (sum_by-cons (given others times) r rs) (
      let rest = filter (is_new others) rs in
      let parts = map (scaled (times r.name)) r.parts in
      ⊎_elim
      (λ new.
      ap (λ (rules : List Rule). sum_by amount (summed times rules)) (cond-true {A = List Rule} (is_new others r) (r ∷ rest) rest new)
      ∙ sum_by-append amount parts (summed times rest)
      ∙ both (scaled-sum (times r.name) r.parts ∙ sym (cond-true {A = ℕ} (is_new others r) (times r.name * rule_amount amount r) 0 new)) (sum-given others times rs))
      (λ old.
      ap (λ (rules : List Rule). sum_by amount (summed times rules)) (cond-false {A = List Rule} (is_new others r) (r ∷ rest) rest old)
      ∙ none (cond-false {A = ℕ} (is_new others r) (times r.name * rule_amount amount r) 0 old) (sum-given others times rs))
      (cases_Bool (is_new others r))) where
        by-cons : {a b c : ℕ} → c ≡ b → a ≡ b → a ≡ c
        by-cons e f = f ∙ sym e

        both : {a b c d : ℕ} → a ≡ c → b ≡ d → a + b ≡ c + d
        both e f = grind arith

        none : {a b c : ℕ} → c ≡ 0 → a ≡ b → a ≡ c + b
        none e f = grind arith

-- ---- merged rules

module _ (parent child : Book) (book : IsBook parent) (child_book : IsBook child) (merges : MergesRules parent.rules child.rules) (times : List ℕ → ℕ) (sum : IsSumBy parent child times) (amount : Part → ℕ) (measure : IsMeasure amount) where
  abbrev x : List ℕ
  x = measured amount parent

  abbrev place : ℕ
  place = merges.new.new

  abbrev old_total : ℕ → Type 0
  old_total r = slice_index (measured amount child) (image parent child r) ≡ sum_below (share (becomes parent child times) x (image parent child r)) (size_of parent)

  kept-total : (r : ℕ) → r < size_of parent → is_new child.rules (rule_at parent.rules r) ≡ false → old_total r
  kept-total r h old =
      let c = image parent child r in
      let d = becomes parent child times in
      let is_old : ¬ IsNew parent.rules child.rules r = λ new. both_ways _ old new in
      let at = equal-image parent child book child_book r h (merges.kept r h is_old) in
      let elsewhere = λ (k : ℕ) (hk : k < size_of parent) (other : k ≡ r → ⊥).
      ⊎_elim
      (λ e. absurd (⊎_elim
      (λ new_k. kept-image parent child book child_book merges r h is_old (sym e.1 ∙ merged-image parent child book child_book merges k new_k))
      (λ old_k. other (alone parent child book child_book k r hk h (λ new. both_ways _ old_k new) is_old e.1))
      (cases_Bool (is_new child.rules (rule_at parent.rules k)))))
      (λ ne. share-elsewhere d x x c k x ne.0)
      (eqb_tells (image parent child k) c) in
      let only = sum_below-one (share d x c) r (size_of parent) h elsewhere in
      let own : slice_index (measured amount child) c ≡ slice_index x r = measured-at amount child.rules c at.0 ∙ ap (rule_amount amount) at.1 ∙ sym (measured-at amount parent.rules r h) in
      once_times (slice_index (measured amount child) c) (sum_below (share d x c) (size_of parent)) (share d x c r) (d.times r) (slice_index x r) own only (share-here d x x c r x refl) (cond-false {A = ℕ} (is_new child.rules (rule_at parent.rules r)) (times (name_at parent.rules r)) 1 old) where
        once_times : (a s f t v : ℕ) → a ≡ v → s ≡ f → f ≡ t * v → t ≡ 1 → a ≡ s
        once_times a s f t v e1 e2 e3 e4 = grind arith

  shares-given : (k : ℕ) → k < size_of parent → share (becomes parent child times) x place k ≡ given amount measure child.rules times (rule_at parent.rules k)
  shares-given k h =
      let d = becomes parent child times in
      let rule = rule_at parent.rules k in
      ⊎_elim
      (λ new.
      share-here d x x place k x (merged-image parent child book child_book merges k new)
      ∙ times_same (d.times k) (times rule.name) (slice_index x k) (rule_amount amount rule) (cond-true {A = ℕ} (is_new child.rules rule) (times rule.name) 1 new) (measured-at amount parent.rules k h)
      ∙ sym (cond-true {A = ℕ} (is_new child.rules rule) (times rule.name * rule_amount amount rule) 0 new))
      (λ old.
      ⊎_elim
      (λ e. absurd (kept-image parent child book child_book merges k h (λ new. both_ways _ old new) e.1))
      (λ ne. share-elsewhere d x x place k x ne.0 ∙ sym (cond-false {A = ℕ} (is_new child.rules rule) (times rule.name * rule_amount amount rule) 0 old))
      (eqb_tells (image parent child k) place))
      (cases_Bool (is_new child.rules rule)) where
        times_same : (t u v w : ℕ) → t ≡ u → v ≡ w → t * v ≡ u * w
        times_same t u v w e f = grind arith

  new-total : slice_index (measured amount child) place ≡ sum_below (share (becomes parent child times) x place) (size_of parent)
  new-total =
      measured-at amount child.rules place merges.new.first.inside
      ∙ ap (λ (k : ℕ). rule_amount amount (rule_at child.rules k)) (sym (one-place child.rules parent.rules merges.new))
      ∙ ap (sum_by amount) sum.total
      ∙ sum-given amount measure child.rules times parent.rules
      ∙ ap (sum_by (given amount measure child.rules times)) (sym (take_all (size_of parent) parent.rules (omega arith)))
      ∙ sym (sum_below-take (given amount measure child.rules times) parent.rules (size_of parent) (omega arith))
      ∙ sym (sum_below-same (share (becomes parent child times) x place) (λ k. given amount measure child.rules times (rule_at parent.rules k)) (size_of parent) shares-given)

  pub merged-measured : Carries (size_of parent) (size_of child) (becomes parent child times) (measured amount parent) (measured amount child)
  merged-measured = record {
    width = length-map parent.rules (rule_amount amount);
    child_width = length-map child.rules (rule_amount amount);
    total = λ r h.
        ⊎_elim
        (λ new. subst (λ (c : ℕ). slice_index (measured amount child) c ≡ sum_below (share (becomes parent child times) x c) (size_of parent)) (sym (merged-image parent child book child_book merges r new)) new-total)
        (λ old. kept-total r h old)
        (cases_Bool (is_new child.rules (rule_at parent.rules r)));
  }
