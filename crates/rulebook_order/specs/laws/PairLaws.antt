-- The relation of a pre-order is what its test answers, and it has the four laws.
use Rattle.std.specs.Prelude.{◌≡◌, ℕ, ◌↔◌, not, List, length, IsTrue}
use Rattle.std.specs.Cmp.{both_ways as same_test}
use Rattle.std.proofs.Common.{⊎_elim}
use Rattle.std.proofs.lemmas.Bool.{and_parts, and_from, or_cases, or_left, or_right, not-true}
use Rattle.std.proofs.lemmas.Bool.{not_from_false, cases_Bool, both_ways, ltb-true, lt-ltb}
use Rattle.preorder.specs.Preorder.{rules_of, above}
use Rattle.preorder.specs.declared.order.Preorder.{Preorder}
use Rattle.rulebook_order.specs.laws.Below.{all_below-at, all_below-from, any_below-found}
use Rattle.rulebook_order.specs.laws.Below.{any_below-from}
use Rattle.rulebook_order.specs.NoWorseBy.{IsExcusedBy, NoWorseBy, is_loss, is_excused, no_worse_by}
use Rattle.rulebook_order.specs.laws.NoWorseLaws.{NoWorse-refl, NoWorse-trans, NoWorse-antisym}
use Rattle.rulebook_order.specs.laws.NoWorseLaws.{NoWorse-sums}
use Rattle.rulebook_order.specs.laws.Strict.{IsStrictOrder, strict_part}
use Rattle.rulebook_order.specs.Sums.{sums}
use Rattle.rulebook_order.specs.VectorOrder.{IsVectorOrder}

module _ (order : Preorder) where
  -- the test holds exactly where rule r is excused
  pub is_excused-words : (x y : List ℕ) (r : ℕ) → IsTrue (is_excused order x y r)
      ↔ IsExcusedBy order x y r
  is_excused-words x y r = (
    λ h.
        let found = any_below-found _ (rules_of order) h in
        let parts = and_parts (above order found.0 r) _ found.2 in
        record { rule = found.0; inside = found.1; above = parts.0; win = ltb-true _ _ parts.1 },
    λ e. any_below-from _ (rules_of order) e.rule e.inside
        (and_from _ _ e.above (lt-ltb _ _ e.win)),
  )

  -- the test holds exactly where x is no worse by the order
  pub no_worse_by-words : (x y : List ℕ) → IsTrue (no_worse_by order x y) ↔ NoWorseBy order x y
  no_worse_by-words x y = (
    λ h r inside loss.
        ⊎_elim (λ kept. absurd (both_ways _ (not-true _ kept) (lt-ltb _ _ loss)))
        (λ excused. (is_excused-words x y r).0 excused)
        (or_cases (not (is_loss x y r)) (is_excused order x y r)
        (all_below-at _ (rules_of order) h r inside)),
    λ h. all_below-from _ (rules_of order) (λ r inside.
        ⊎_elim (λ loss. or_right _ _ ((is_excused-words x y r).1 (h r inside (ltb-true _ _ loss))))
        (λ kept. or_left _ _ (not_from_false _ kept)) (cases_Bool (is_loss x y r))),
  )

  strict : IsStrictOrder (rules_of order) (above order)
  strict = strict_part _ _ order.closed

  -- it has the four laws
  pub no_worse_by-laws : IsVectorOrder (rules_of order) (no_worse_by order)
  no_worse_by-laws = record {
    reflexive = λ x lx. (no_worse_by-words x x).1 (NoWorse-refl _ _ strict x);
    transitive =
        λ x y z lx ly lz xy yz. (no_worse_by-words x z).1
        (NoWorse-trans _ _ strict x y z ((no_worse_by-words x y).0 xy)
        ((no_worse_by-words y z).0 yz));
    antisymmetric =
        λ x y lx ly xy yx. NoWorse-antisym _ _ strict x y lx ly ((no_worse_by-words x y).0 xy)
        ((no_worse_by-words y x).0 yx);
    unchanged_by_adding = λ x y z lx ly lz. same_test _ _
        (λ h. (no_worse_by-words x y).1 ((NoWorse-sums _ _ strict x y z lx ly lz).0
        ((no_worse_by-words (sums x z) (sums y z)).0 h)))
        (λ h. (no_worse_by-words (sums x z) (sums y z)).1
        ((NoWorse-sums _ _ strict x y z lx ly lz).1 ((no_worse_by-words x y).0 h)));
  }

  -- related both ways only where equal, by the words
  pub NoWorseBy-antisym : (x y : List ℕ) → length x ≡ rules_of order → length y ≡ rules_of order
      → NoWorseBy order x y → NoWorseBy order y x → x ≡ y
  NoWorseBy-antisym x y lx ly = NoWorse-antisym _ _ strict x y lx ly
