-- What a merge of rules makes of them.
use Rattle.std.specs.Prelude.{◌≡◌, ◌↔◌, ℕ, ◌<◌, ◌≤◌, Bool, not, ◌&&◌, List, [], ◌∷◌, Some, None, IsTrue, All, length}
use Rattle.std.specs.List.{filter, position}
use Rattle.std.specs.Option.{unwrap_or}
use Rattle.std.proofs.Common.{◌∙◌, ⊎_elim, sym, ap, subst, zero, suc, arith}
use Rattle.std.proofs.lemmas.Bool.{and_parts, and_from, both_ways, cases_Bool, cases_order, cond-true, cond-false, not-true, not_from_false, false_from_ne_true}
use Rattle.std.proofs.lemmas.List.Elements.{All-head, All-tail}
use Rattle.preorder.specs.Preorder.{rules_of, at_least, same}
use Rattle.preorder.specs.Statements.{Leads, IsClosure}
use Rattle.preorder.specs.declared.order.Preorder.{Preorder}
use Rattle.rule_language.specs.Books.{IsBook}
use Rattle.rule_language.specs.Writing.{name_at}
use Rattle.rule_language.specs.declared.book.Book.{Book}
use Rattle.rule_language.specs.declared.book.Rule.{Rule}
use Rattle.book_operations.specs.Aggregation.{AreSame, AreTwoNew, IsOneNew, IsChanged, MergesRules, MergedAreOneClass, IsSumBy}
use Rattle.book_operations.specs.First.{IsFirst}
use Rattle.book_operations.specs.Images.{rule_at, HasEqual, is_new, IsNew}
use Rattle.book_operations.specs.Same.{has_equal}
use Rattle.book_operations.specs.Tests.{size_of, image, IsCounted, MergesClasses, OthersAreLowest}
use Rattle.book_operations.proofs.Parts.{has_equal-from, has_equal-to}
use Rattle.book_operations.proofs.Placed.{position-none, position-first, option-cases, none-new, IsFirst-weaker, image-named, image-new, name-found, one_rule}

pub first-unique : (size : ℕ) (P : ℕ → Type 0) (a b : ℕ) → IsFirst size P a → IsFirst size P b → a ≡ b
first-unique size P a b f g =
    ⊎_elim (λ e. e)
    (λ d. absurd (⊎_elim (λ less. g.before a less f.holds) (λ more. f.before b more g.holds) d))
    (cases_order a b)

module _ (rules others : List Rule) where
  -- a rule that is changed, as a test
  changed-is : (r : ℕ) → r < length rules → IsTrue (not (is_new others (rule_at rules r)) && not (has_equal others (rule_at rules r))) → IsChanged rules others r
  changed-is r h t =
      let g = and_parts (not (is_new others (rule_at rules r))) (not (has_equal others (rule_at rules r))) t in
      (λ new. both_ways _ (not-true _ g.0) new, λ equal. both_ways _ (not-true _ g.1) (has_equal-to others (rule_at rules r) equal.0 equal.1 equal.2))

  changed-to : (r : ℕ) → r < length rules → IsChanged rules others r → IsTrue (not (is_new others (rule_at rules r)) && not (has_equal others (rule_at rules r)))
  changed-to r h c = and_from _ _ (not_from_false _ (false_from_ne_true _ c.0)) (not_from_false _ (false_from_ne_true _ (λ yes. c.1 (has_equal-from others (rule_at rules r) yes))))

  pub first-changed : (r : ℕ) → position (λ rule. not (is_new others rule) && not (has_equal others rule)) rules ≡ Some r → IsFirst (length rules) (IsChanged rules others) r
  first-changed r e = IsFirst-weaker (length rules) (λ k. IsTrue (not (is_new others (rule_at rules k)) && not (has_equal others (rule_at rules k)))) (IsChanged rules others) r changed-is changed-to
      (position-first (λ rule. not (is_new others rule) && not (has_equal others rule)) rules r e)

  pub none-changed : position (λ rule. not (is_new others rule) && not (has_equal others rule)) rules ≡ None → (r : ℕ) → r < length rules → ¬ IsNew rules others r → HasEqual rules others r
  none-changed e r h old =
      ⊎_elim (λ yes. has_equal-from others (rule_at rules r) yes)
      (λ no. absurd (both_ways _ (position-none (λ rule. not (is_new others rule) && not (has_equal others rule)) rules e r h) (and_from _ _ (not_from_false _ (false_from_ne_true _ old)) (not_from_false _ no))))
      (cases_Bool (has_equal others (rule_at rules r)))

  -- the first new rule is the one
  pub one-place : (one : IsOneNew rules others) → unwrap_or (position (is_new others) rules) 0 ≡ one.new
  one-place one =
      ⊎_elim (λ none. absurd (none-new rules others none one.new one.first.inside one.first.holds))
      (λ some. ap (λ o. unwrap_or o 0) some.1 ∙ first-unique (length rules) (IsNew rules others) some.0 one.new (position-first (is_new others) rules some.0 some.1) one.first)
      (option-cases (position (is_new others) rules))

  -- two are new where one is, and one after it
  pub no-two : (a : ℕ) → IsFirst (length rules) (IsNew rules others) a → ((k : ℕ) → a < k → k < length rules → ¬ IsNew rules others k) → ¬ AreTwoNew rules others
  no-two a first alone two =
      ⊎_elim (λ e. alone two.1 (omega (arith, e, two.2)) two.3 two.5)
      (λ d. ⊎_elim (λ less. first.before two.0 less two.4) (λ more. alone two.0 more (omega (arith, two.2, two.3)) two.4) d)
      (cases_order two.0 a)

  pub no-two-none : ((r : ℕ) → r < length rules → ¬ IsNew rules others r) → ¬ AreTwoNew rules others
  no-two-none none two = none two.1 two.3 two.5

-- what holds of each rule that passes a test
pub filter-at : (p : Rule → Bool) (P : Rule → Type 0) (rules : List Rule) → All P (filter p rules) → (r : ℕ) → r < length rules → IsTrue (p (rule_at rules r)) → P (rule_at rules r)
filter-at p P [] all r h t = absurd (omega (arith, h))
filter-at p P (x ∷ xs) all zero h t = All-head P x (filter p xs) (subst (All P) (cond-true {A = List Rule} (p x) (x ∷ filter p xs) (filter p xs) t) all)
filter-at p P (x ∷ xs) all (suc r) h t =
    filter-at p P xs
    (⊎_elim (λ yes. All-tail P x (filter p xs) (subst (All P) (cond-true {A = List Rule} (p x) (x ∷ filter p xs) (filter p xs) yes) all))
    (λ no. subst (All P) (cond-false {A = List Rule} (p x) (x ∷ filter p xs) (filter p xs) no) all)
    (cases_Bool (p x)))
    r (omega (arith, h)) t

pub sum-counted : (parent child : Book) (times : List ℕ → ℕ) → IsSumBy parent child times → IsCounted parent child times
sum-counted parent child times sum r h =
    ⊎_elim
    (λ new. omega (arith, cond-true {A = ℕ} (is_new child.rules (rule_at parent.rules r)) (times (name_at parent.rules r)) 1 new, filter-at (is_new child.rules) (λ (rule : Rule). 1 ≤ times rule.name) parent.rules sum.counted r h new))
    (λ old. omega (arith, cond-false {A = ℕ} (is_new child.rules (rule_at parent.rules r)) (times (name_at parent.rules r)) 1 old))
    (cases_Bool (is_new child.rules (rule_at parent.rules r)))

module _ (parent child : Book) (book : IsBook parent) (child_book : IsBook child) (merges : MergesRules parent.rules child.rules) where
  abbrev pub one : IsOneNew child.rules parent.rules
  one = merges.new

  pub merged-image : (r : ℕ) → IsNew parent.rules child.rules r → image parent child r ≡ one.new
  merged-image r new = image-new parent.rules child.rules r new ∙ one-place child.rules parent.rules merges.new

  pub kept-image : (r : ℕ) → r < size_of parent → ¬ IsNew parent.rules child.rules r → image parent child r ≡ one.new → ⊥
  kept-image r h old e =
      let at = image-named parent.rules child.rules r old in
      name-found child.rules parent.rules one.new r h (sym at.1 ∙ ap (name_at child.rules) e) one.first.holds

  pub merge-classes : MergedAreOneClass parent child → MergesClasses parent child
  merge-classes one_class a b ha hb e =
      ⊎_elim
      (λ new_a. ⊎_elim (λ new_b. one_class a b ha hb new_a new_b)
      (λ old_b. absurd (kept-image b hb (λ new. both_ways _ old_b new) (sym e ∙ merged-image a new_a)))
      (cases_Bool (is_new child.rules (rule_at parent.rules b))))
      (λ old_a. ⊎_elim (λ new_b. absurd (kept-image a ha (λ new. both_ways _ old_a new) (e ∙ merged-image b new_b)))
      (λ old_b.
      let na = image-named parent.rules child.rules a (λ new. both_ways _ old_a new) in
      let nb = image-named parent.rules child.rules b (λ new. both_ways _ old_b new) in
      subst (λ q. Leads parent.statements a q) (one_rule parent.rules book.different a b ha hb (sym na.1 ∙ ap (name_at child.rules) e ∙ nb.1)) (Leads.here a))
      (cases_Bool (is_new child.rules (rule_at parent.rules b))))
      (cases_Bool (is_new child.rules (rule_at parent.rules a)))

  -- each rule of the child is what one of the parent's becomes
  pub merge-adds_none : OthersAreLowest parent child
  merge-adds_none c old hc ho added =
      ⊎_elim
      (λ new.
      let at : c ≡ one.new = ⊎_elim (λ e. e) (λ d. absurd (⊎_elim (λ less. one.first.before c less new) (λ more. one.alone c more hc new) d)) (cases_order c one.new) in
      absurd (added merges.merged.1 merges.merged.3 (merged-image merges.merged.1 merges.merged.5 ∙ sym at)))
      (λ kept.
      let back = image-named child.rules parent.rules c (λ new. both_ways _ kept new) in
      let there = image-named parent.rules child.rules (image child parent c) (name-found parent.rules child.rules (image child parent c) c hc (sym back.1)) in
      absurd (added (image child parent c) back.0 (one_rule child.rules child_book.different (image parent child (image child parent c)) c there.0 hc (there.1 ∙ back.1))))
      (cases_Bool (is_new parent.rules (rule_at child.rules c)))

module _ (parent child : Book) (order : Preorder) (is_size : rules_of order ≡ size_of parent) (closure : IsClosure parent.statements (size_of parent) (at_least order)) (merged : ℕ) (first : IsFirst (size_of parent) (IsNew parent.rules child.rules) merged) where
  same-statements : (k : ℕ) → k < size_of parent → IsTrue (same order merged k) ↔ AreSame parent.statements merged k
  same-statements k h = (
    λ t.
        let g = and_parts (at_least order merged k) (at_least order k merged) t in
        ((closure merged k first.inside h).0 g.0, (closure k merged h first.inside).0 g.1),
    λ s. and_from (at_least order merged k) (at_least order k merged) ((closure merged k first.inside h).1 s.0) ((closure k merged h first.inside).1 s.1),
  )

  -- the first that is not the same by the pre-order is the first by the statements
  pub first-apart : (later : ℕ) → IsFirst (size_of parent) (λ k. (merged < k) × IsNew parent.rules child.rules k × ¬ IsTrue (same order merged k)) later → IsFirst (size_of parent) (λ k. (merged < k) × IsNew parent.rules child.rules k × ¬ AreSame parent.statements merged k) later
  first-apart later f = IsFirst-weaker (size_of parent) (λ k. (merged < k) × IsNew parent.rules child.rules k × ¬ IsTrue (same order merged k)) (λ k. (merged < k) × IsNew parent.rules child.rules k × ¬ AreSame parent.statements merged k) later
      (λ k h p. (p.0, p.1, λ s. p.2 ((same-statements k h).1 s))) (λ k h p. (p.0, p.1, λ t. p.2 ((same-statements k h).0 t))) f

  -- where all later ones are the same as the first, all are of one class
  pub class-kept : ((k : ℕ) → merged < k → k < size_of parent → IsNew parent.rules child.rules k → IsTrue (same order merged k)) → MergedAreOneClass parent child
  class-kept all a b ha hb new_a new_b = (closure a b ha hb).0 (order.closed.transitive a merged b (like a ha new_a).1 (like b hb new_b).0) where
    like : (k : ℕ) → k < size_of parent → IsNew parent.rules child.rules k → IsTrue (at_least order merged k) × IsTrue (at_least order k merged)
    like k h new =
        ⊎_elim (λ (e : k ≡ merged). let r = order.closed.reflexive k (omega (arith, h, is_size)) in (subst (λ q. IsTrue (at_least order q k)) e r, subst (λ q. IsTrue (at_least order k q)) e r))
        (λ d. ⊎_elim (λ less. absurd (first.before k less new)) (λ more. and_parts (at_least order merged k) (at_least order k merged) (all k more h new)) d)
        (cases_order k merged)
