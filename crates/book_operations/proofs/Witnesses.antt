-- The two vectors of a refusal: the first beats the second in the parent, and does not in the child.
use Rattle.std.specs.Prelude.{◌≡◌, ◌≢◌, ℕ, ◌<◌, ◌≤◌, List, length, slice_index, nat_eq, replicate}
use Rattle.std.proofs.Common.{◌∙◌, ⊎_elim, refl, sym, ap, subst, arith}
use Rattle.std.proofs.lemmas.Bool.{both_ways, cases_Bool, cases_eq, eqb-true, eq-eqb}
use Rattle.std.proofs.lemmas.List.{get_or-replicate, length-replicate, length-set, get_or-set_same, get_or-set_other}
use Rattle.preorder.specs.Preorder.{rules_of, above}
use Rattle.preorder.specs.declared.order.Preorder.{Preorder}
use Rattle.rulebook_order.specs.laws.Below.{any_below, any_below-found, any_below-from}
use Rattle.rulebook_order.specs.NoWorse.{Beats, NoWorse}
use Rattle.rulebook_order.specs.NoWorseBy.{IsAboveBy, NoWorseBy}
use Rattle.rulebook_order.specs.laws.Strict.{IsStrictOrder, strict_part}
use Rattle.book_operations.specs.Derivation.{Derivation, IsAdded, Carries, one_at, none_violated}
use Rattle.book_operations.proofs.Shares.{Carries-less, Carries-found}

pub one_at-width : (size i : ℕ) → length (one_at size i) ≡ size
one_at-width size i = length-set (replicate size 0) i 1 ∙ length-replicate {A = ℕ} size 0

pub one_at-there : (size i : ℕ) → i < size → slice_index (one_at size i) i ≡ 1
one_at-there size i inside = get_or-set_same (replicate size 0) i 1 0 (omega (arith, inside, length-replicate {A = ℕ} size 0))

pub one_at-elsewhere : (size i k : ℕ) → k < size → k ≢ i → slice_index (one_at size i) k ≡ 0
one_at-elsewhere size i k inside other = get_or-set_other (replicate size 0) i k 1 0 other ∙ get_or-replicate {A = ℕ} size k 0 0 inside

-- only rule i is violated
one_at-only : (size i k : ℕ) → k < size → 0 < slice_index (one_at size i) k → k ≡ i
one_at-only size i k inside positive = ⊎_elim (λ e. e) (λ ne. absurd (omega (arith, positive, one_at-elsewhere size i k inside ne))) (cases_eq k i)

module _ (order : Preorder) where
  strict : IsStrictOrder (rules_of order) (above order)
  strict = strict_part _ _ order.closed

  -- the higher rule kept beats the lower rule kept
  pub one_at-beats : (a b : ℕ) → IsAboveBy order a b → Beats (NoWorseBy order) (one_at (rules_of order) b) (one_at (rules_of order) a)
  one_at-beats a b h = record { no_worse = no_worse; one_way = one_way } where
    size : ℕ
    size = rules_of order

    a-inside : a < size
    a-inside = (strict.within a b h).0

    win : slice_index (one_at size b) a < slice_index (one_at size a) a
    win = omega (arith, one_at-there size a a-inside, one_at-elsewhere size b a a-inside (λ e. both_ways _ (strict.irreflexive b) (subst (λ q. IsAboveBy order q b) e h)))

    no_worse : NoWorseBy order (one_at size b) (one_at size a)
    no_worse r inside loss = record {
      rule = a;
      inside = a-inside;
      above = subst (λ q. IsAboveBy order a q) (sym (one_at-only size b r inside (omega (arith, loss)))) h;
      win = win;
    }

    one_way : ¬ NoWorseBy order (one_at size a) (one_at size b)
    one_way back =
        let e = back a a-inside win in
        let is = one_at-only size b e.rule e.inside (omega (arith, e.win)) in
        both_ways _ (strict.irreflexive a) (strict.transitive a b a h (subst (λ q. IsAboveBy order q a) is e.above))

  -- a rule that is not above another excuses nothing on it
  pub one_at-unexcused : (a b : ℕ) → b < rules_of order → a ≢ b → ¬ IsAboveBy order a b → ¬ NoWorseBy order (one_at (rules_of order) b) (one_at (rules_of order) a)
  one_at-unexcused a b inside other not_above no_worse =
      let size = rules_of order in
      let e = no_worse b inside (omega (arith, one_at-there size b inside, one_at-elsewhere size a b inside (λ is. other (sym is)))) in
      not_above (subst (λ q. IsAboveBy order q b) (one_at-only size a e.rule e.inside (omega (arith, e.win))) e.above)

-- nothing violated beats one rule violated, whatever is above what
pub none-beats : (size : ℕ) (Above : ℕ → ℕ → Type 0) (a : ℕ) → a < size → Beats (NoWorse size Above) (none_violated size) (one_at size a)
none-beats size Above a inside = record {
  no_worse = λ r h loss. absurd (omega (arith, loss, get_or-replicate {A = ℕ} size r 0 0 h));
  one_way = λ back.
      let e = back a inside (omega (arith, get_or-replicate {A = ℕ} size a 0 0 inside, one_at-there size a inside)) in
      omega (arith, e.win, get_or-replicate {A = ℕ} size e.rule 0 0 e.inside);
}

-- a strict pair (a, b) of the parent is none of the child
module _ (parent child : Preorder) (derivation : Derivation) (a b : ℕ) (b-inside : b < rules_of parent) (image-inside : derivation.image b < rules_of child) (counted : 1 ≤ derivation.times b) where
  module _ (apart : derivation.image a ≢ derivation.image b) (lost : ¬ IsAboveBy child (derivation.image a) (derivation.image b)) where
    -- of the vectors that carry the two, added rules violated alike, the first is not no worse in the child
    pub strict-lost : (child_x child_y : List ℕ) → Carries (rules_of parent) (rules_of child) derivation (one_at (rules_of parent) b) child_x → Carries (rules_of parent) (rules_of child) derivation (one_at (rules_of parent) a) child_y → ((c : ℕ) → c < rules_of child → IsAdded (rules_of parent) derivation c → slice_index child_x c ≡ slice_index child_y c) → ¬ NoWorseBy child child_x child_y
    strict-lost child_x child_y carries_x carries_y alike no_worse = refuted where
      size : ℕ
      size = rules_of parent

      elsewhere : (k : ℕ) → k < size → derivation.image k ≡ derivation.image b → slice_index (one_at size a) k ≡ 0
      elsewhere k inside e = one_at-elsewhere size a k inside (λ is. apart (subst (λ q. derivation.image q ≡ derivation.image b) is e))

      loss : slice_index child_y (derivation.image b) < slice_index child_x (derivation.image b)
      loss = Carries-less size (rules_of child) derivation (one_at size a) (one_at size b) child_y child_x carries_y carries_x b b-inside counted
          (omega (arith, one_at-there size b b-inside, elsewhere b b-inside refl))
          (λ k inside e. omega (arith, elsewhere k inside e))

      refuted : ⊥
      refuted =
          let e = no_worse (derivation.image b) image-inside loss in
          ⊎_elim
          (λ some.
          let found = any_below-found (λ r. nat_eq (derivation.image r) e.rule) size some in
          let is = eqb-true _ _ found.2 in
          let win = subst (λ q. slice_index child_x q < slice_index child_y q) (sym is) e.win in
          let less = Carries-found size (rules_of child) derivation (one_at size b) (one_at size a) child_x child_y carries_x carries_y found.0 found.1 win in
          let at = one_at-only size a less.0 less.1 (omega (arith, less.3)) in
          lost (subst (λ q. IsAboveBy child q (derivation.image b)) (sym is ∙ sym less.2 ∙ ap derivation.image at) e.above))
          (λ none. omega (arith, e.win, alike e.rule e.inside (λ r h is. both_ways _ none (any_below-from (λ r. nat_eq (derivation.image r) e.rule) size r h (eq-eqb _ _ is)))))
          (cases_Bool (any_below (λ r. nat_eq (derivation.image r) e.rule) size))
