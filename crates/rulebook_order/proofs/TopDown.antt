-- What the first rule from the top down that differs says of two vectors.
use Rattle.std.proofs.Common.{◌≡◌, ◌≢◌, ℕ, zero, suc, ◌<◌, ◌≤◌, true, List, get_or, refl, ap, sym, ◌∙◌, subst, inl, inr, arith}
use Rattle.std.specs.Prelude.{IsTrue}
use Rattle.std.proofs.lemmas.Bool.{cases_order, or_cases}
use Rattle.preorder.specs.Preorder.{rules_of, above}
use Rattle.preorder.specs.declared.order.Preorder.{Preorder}
use Rattle.rulebook_order.specs.NoWorseBy.{NoWorseBy}
use Rattle.rulebook_order.specs.Shapes.{AreFromTopDown, IsChain, IsRelated, rules_above}
use Rattle.rulebook_order.specs.laws.Count.{count_below, count_below-lt}
use Rattle.rulebook_order.specs.laws.Strict.{IsStrictOrder, strict_part}
use Rattle.rulebook_order.proofs.Places.{reached_by}

count_all : (n : ℕ) → count_below (λ _. true) n ≡ n
count_all zero = refl
count_all (suc n) = omega (arith, count_all n)

module _ (order : Preorder) where
  strict : IsStrictOrder (rules_of order) (above order)
  strict = strict_part _ _ order.closed

  -- fewer rules are above a rule that is above
  pub rules_above-falls : (q r : ℕ) → IsTrue (above order q r) → rules_above order q < rules_above order r
  rules_above-falls q r h = count_below-lt (λ s. above order s q) (λ s. above order s r) (λ s k. strict.transitive s q r k h) q h (strict.irreflexive q) (rules_of order) (strict.within q r h).0

  -- not all rules are above a rule
  pub rules_above-lt : (r : ℕ) → r < rules_of order → rules_above order r < rules_of order
  rules_above-lt r inside = omega (arith, count_all (rules_of order), count_below-lt (λ s. above order s r) (λ _. true) (λ s k. refl) r refl (strict.irreflexive r) (rules_of order) inside)

  -- of two related rules one has fewer above it
  pub rules_above-differ : (q r : ℕ) → IsRelated order q r → rules_above order q ≢ rules_above order r
  rules_above-differ q r related same = elim (or_cases (above order q r) (above order r q) related) [
    | inl up ↦ omega (arith, same, rules_above-falls q r up)
    | inr down ↦ omega (arith, same, rules_above-falls r q down)
  ]

  -- in a chain the rule with fewer above it is above
  pub above_from_fewer : IsChain order → (q r : ℕ) → q < rules_of order → r < rules_of order → rules_above order q < rules_above order r → IsTrue (above order q r)
  above_from_fewer chain q r q_in r_in fewer = elim (or_cases (above order q r) (above order r q) (chain r r_in q q_in (λ e. omega (arith, fewer, ap (rules_above order) e)))) [
    | inl up ↦ up
    | inr down ↦ absurd (omega (arith, fewer, rules_above-falls r q down))
  ]

  -- the rules, each at the place that the number of rules above it gives
  pub top_down : (rules : List ℕ) → IsChain order → ((r : ℕ) → r < rules_of order → get_or rules (rules_above order r) 0 ≡ r) → AreFromTopDown order rules
  top_down rules chain listed = record {
    chain = chain;
    inside = λ k below.
        let found = at k below in
        subst (λ n. n < rules_of order) (sym (holds k below)) found.1;
    place = λ k below. ap (rules_above order) (holds k below) ∙ (at k below).2;
    listed = listed;
  } where
    at : (k : ℕ) → k < rules_of order → (r : ℕ) × (r < rules_of order) × (rules_above order r ≡ k)
    at k below = reached_by (rules_above order) (rules_of order) rules_above-lt (λ i j i_in j_in ne. rules_above-differ i j (chain j j_in i i_in ne)) k below

    holds : (k : ℕ) (below : k < rules_of order) → get_or rules k 0 ≡ (at k below).0
    holds k below = ap (λ m. get_or rules m 0) (sym (at k below).2) ∙ listed (at k below).0 (at k below).1

  module _ (rules : List ℕ) (t : AreFromTopDown order rules) (x y : List ℕ) where
    -- a rule whose place is early is violated alike
    alike : (k : ℕ) → ((j : ℕ) → j < k → get_or x (get_or rules j 0) 0 ≡ get_or y (get_or rules j 0) 0) → (r : ℕ) → r < rules_of order → rules_above order r < k → get_or x r 0 ≡ get_or y r 0
    alike k before r inside early = subst (λ q. get_or x q 0 ≡ get_or y q 0) (t.listed r inside) (before (rules_above order r) early)

    pub no_worse_alike : (k : ℕ) → rules_of order ≤ k → ((j : ℕ) → j < k → get_or x (get_or rules j 0) 0 ≡ get_or y (get_or rules j 0) 0) → NoWorseBy order x y
    no_worse_alike k all before r inside loss = absurd (omega (arith, loss, alike k before r inside (omega (arith, all, rules_above-lt r inside))))

    module _ (k : ℕ) (below : k < rules_of order) (before : (j : ℕ) → j < k → get_or x (get_or rules j 0) 0 ≡ get_or y (get_or rules j 0) 0) where
      pub no_worse_by_first : get_or x (get_or rules k 0) 0 < get_or y (get_or rules k 0) 0 → NoWorseBy order x y
      no_worse_by_first win r inside loss = elim (cases_order (rules_above order r) k) [
        | inl here ↦ absurd (omega (arith, loss, win, ap (λ n. get_or x n 0) (same here), ap (λ n. get_or y n 0) (same here)))
        | inr (inl early) ↦ absurd (omega (arith, loss, alike k before r inside early))
        | inr (inr late) ↦ record {
          rule = get_or rules k 0;
          inside = t.inside k below;
          above = above_from_fewer t.chain (get_or rules k 0) r (t.inside k below) inside (omega (arith, late, t.place k below));
          win = win;
        }
      ] where
        same : rules_above order r ≡ k → get_or rules k 0 ≡ r
        same here = ap (λ n. get_or rules n 0) (sym here) ∙ t.listed r inside

      pub worse_by_first : get_or y (get_or rules k 0) 0 < get_or x (get_or rules k 0) 0 → ¬ NoWorseBy order x y
      worse_by_first loss h =
          let e = h (get_or rules k 0) (t.inside k below) loss in
          omega (arith, e.win, alike k before e.rule e.inside (omega (arith, t.place k below, rules_above-falls e.rule (get_or rules k 0) e.above)))
