-- What the images of rules are.
use Rattle.std.specs.Prelude.{◌≡◌, ℕ, ◌<◌, ◌≤◌, Bool, false, not, List, Option, Some, None, IsTrue, length, is_none, nat_lt}
use Rattle.std.specs.List.{position, position_or_len}
use Rattle.std.specs.Option.{unwrap_or}
use Rattle.std.specs.Str.{bytes_eq}
use Rattle.std.proofs.Common.{◌⊎◌, inl, inr, ◌∙◌, ⊎_elim, refl, sym, ap, arith}
use Rattle.std.proofs.lemmas.Bool.{both_ways, cases_Bool, cases_order, false≢true, not-true, not_from_false, false_from_ne_true, ltb-false}
use Rattle.std.proofs.lemmas.List.Quantifiers.{position-Some}
use Rattle.std.proofs.lemmas.List.Sums.{fails_before_first}
use Rattle.std.proofs.lemmas.Slice.Eq.{bytes_eq-Decides}
use Rattle.rule_language.specs.Books.{place_of, nameless}
use Rattle.rule_language.specs.Names.{AreDifferent}
use Rattle.rule_language.specs.Writing.{name_at}
use Rattle.rule_language.specs.declared.book.Rule.{Rule}
use Rattle.book_operations.specs.First.{IsFirst}
use Rattle.book_operations.specs.Images.{rule_at, HasEqual, is_new, IsNew, image_at}
use Rattle.book_operations.specs.Same.{has_equal}
use Rattle.book_operations.proofs.Parts.{has_equal-from, has_equal-to}
use Rattle.reading.proofs.Truth.{refused}

-- ---- the first that passes a test

module _ (p : Rule → Bool) (rules : List Rule) where
  pub position-none : position p rules ≡ None → (r : ℕ) → r < length rules → p (rule_at rules r) ≡ false
  position-none e r h =
      let past = ltb-false (position_or_len p rules) (length rules) (refused (nat_lt (position_or_len p rules) (length rules)) (position_or_len p rules) e) in
      fails_before_first p rules r nameless (omega (arith, past, h))

  pub position-first : (r : ℕ) → position p rules ≡ Some r → IsFirst (length rules) (λ k. IsTrue (p (rule_at rules k))) r
  position-first r e =
      let at = position-Some p rules r nameless e in
      record { inside = at.0; holds = at.1; before = λ k h t. false≢true (sym (at.2 k h) ∙ t) }

pub option-cases : (o : Option ℕ) → (o ≡ None) ⊎ ((i : ℕ) × (o ≡ Some i))
option-cases None = inl refl
option-cases (Some i) = inr (i, refl)

pub IsFirst-weaker : (size : ℕ) (P Q : ℕ → Type 0) (r : ℕ) → ((k : ℕ) → k < size → P k → Q k) → ((k : ℕ) → k < size → Q k → P k) → IsFirst size P r → IsFirst size Q r
IsFirst-weaker size P Q r to from f = record { inside = f.inside; holds = to r f.inside f.holds; before = λ k h q. f.before k h (from k (omega (arith, h, f.inside)) q) }

-- ---- rules with and without equals

module _ (rules others : List Rule) where
  pub all-equal : position (λ rule. not (has_equal others rule)) rules ≡ None → (r : ℕ) → r < length rules → HasEqual rules others r
  all-equal e r h =
      ⊎_elim (λ yes. has_equal-from others (rule_at rules r) yes)
      (λ no. absurd (both_ways _ (position-none (λ rule. not (has_equal others rule)) rules e r h) (not_from_false _ no)))
      (cases_Bool (has_equal others (rule_at rules r)))

  pub first-unequal : (r : ℕ) → position (λ rule. not (has_equal others rule)) rules ≡ Some r → IsFirst (length rules) (λ k. ¬ HasEqual rules others k) r
  first-unequal r e = IsFirst-weaker (length rules) (λ k. IsTrue (not (has_equal others (rule_at rules k)))) (λ k. ¬ HasEqual rules others k) r
      (λ k h no equal. both_ways _ (not-true _ no) (has_equal-to others (rule_at rules k) equal.0 equal.1 equal.2))
      (λ k h no. not_from_false _ (false_from_ne_true _ (λ yes. no (has_equal-from others (rule_at rules k) yes))))
      (position-first (λ rule. not (has_equal others rule)) rules r e)

  pub none-new : position (is_new others) rules ≡ None → (r : ℕ) → r < length rules → ¬ IsNew rules others r
  none-new e r h is = both_ways _ (position-none (is_new others) rules e r h) is

-- ---- images

-- rules of one name are one rule
pub one_rule : (rules : List Rule) → AreDifferent (λ (rule : Rule). rule.name) rules → (a b : ℕ) → a < length rules → b < length rules → name_at rules a ≡ name_at rules b → a ≡ b
one_rule rules different a b ha hb e =
    ⊎_elim (λ is. is)
    (λ d. absurd (⊎_elim (λ less. different a b nameless less hb e) (λ more. different b a nameless more ha (sym e)) d))
    (cases_order a b)

module _ (rules others : List Rule) where
  -- a rule that is not new becomes the rule of its name
  pub image-named : (r : ℕ) → ¬ IsNew rules others r → (image_at rules others r < length others) × (name_at others (image_at rules others r) ≡ name_at rules r)
  unfolding place_of
  image-named r old =
      ⊎_elim (λ none. absurd (old (ap is_none none)))
      (λ some.
      let is : image_at rules others r ≡ some.0 = ap (λ o. unwrap_or o (unwrap_or (position (is_new rules) others) 0)) some.1 in
      let at = position-Some (λ q. bytes_eq q.name (name_at rules r)) others some.0 nameless some.1 in
      (omega (arith, is, at.0), ap (name_at others) is ∙ (bytes_eq-Decides _ _).0 at.1))
      (option-cases (place_of (name_at rules r) others))

  -- one that is becomes the first new one
  pub image-new : (r : ℕ) → IsNew rules others r → image_at rules others r ≡ unwrap_or (position (is_new rules) others) 0
  image-new r new =
      ⊎_elim (λ none. ap (λ o. unwrap_or o (unwrap_or (position (is_new rules) others) 0)) none)
      (λ some. absurd (false≢true (sym (ap is_none some.1) ∙ new)))
      (option-cases (place_of (name_at rules r) others))

  pub first_new-inside : 1 ≤ length others → unwrap_or (position (is_new rules) others) 0 < length others
  first_new-inside some =
      ⊎_elim (λ none. omega (arith, some, ap (λ o. unwrap_or o 0) none))
      (λ at. omega (arith, ap (λ o. unwrap_or o 0) at.1, (position-Some (is_new rules) others at.0 nameless at.1).0))
      (option-cases (position (is_new rules) others))

  pub image-inside : 1 ≤ length others → (r : ℕ) → image_at rules others r < length others
  image-inside some r =
      ⊎_elim (λ new. omega (arith, image-new r new, first_new-inside some))
      (λ old. (image-named r (λ new. both_ways _ old new)).0)
      (cases_Bool (is_new others (rule_at rules r)))

  -- a rule whose name is found is not new
  pub name-found : (r i : ℕ) → i < length others → name_at others i ≡ name_at rules r → ¬ IsNew rules others r
  unfolding place_of
  name-found r i h e new =
      ⊎_elim (λ none. both_ways _ (position-none (λ q. bytes_eq q.name (name_at rules r)) others none i h) ((bytes_eq-Decides _ _).1 e))
      (λ some. false≢true (sym (ap is_none some.1) ∙ new))
      (option-cases (place_of (name_at rules r) others))

  pub equal-named : (r : ℕ) → HasEqual rules others r → ¬ IsNew rules others r
  equal-named r equal = name-found r equal.0 equal.1 (ap (λ (q : Rule). q.name) equal.2)
