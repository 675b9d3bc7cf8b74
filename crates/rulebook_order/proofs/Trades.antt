-- That two rules with neither above the other trade off.
use Rattle.std.proofs.Common.{◌≡◌, ℕ, zero, suc, ◌<◌, ◌≤◌, List, get_or, sym, subst, inl, inr, arith}
use Rattle.std.specs.Prelude.{IsTrue}
use Rattle.std.proofs.lemmas.Bool.{both_ways, cases_lt, cases_eq}
use Rattle.preorder.specs.Preorder.{rules_of, above}
use Rattle.preorder.specs.declared.order.Preorder.{Preorder}
use Rattle.rulebook_order.specs.NoWorseBy.{NoWorseBy, no_worse_by}
use Rattle.rulebook_order.specs.Trade.{IsTradeOff}
use Rattle.rulebook_order.specs.laws.PairLaws.{no_worse_by-words}
use Rattle.rulebook_order.specs.laws.Strict.{IsStrictOrder, strict_part}

module _ (order : Preorder) (two : rules_of order ≡ 2) (up : ¬ IsTrue (above order 0 1)) (down : ¬ IsTrue (above order 1 0)) where
  strict : IsStrictOrder (rules_of order) (above order)
  strict = strict_part _ _ order.closed

  none_above : (q r : ℕ) → q < 2 → r < 2 → ¬ IsTrue (above order q r)
  none_above zero zero _ _ h = both_ways _ (strict.irreflexive 0) h
  none_above zero (suc zero) _ _ h = up h
  none_above (suc zero) zero _ _ h = down h
  none_above (suc zero) (suc zero) _ _ h = both_ways _ (strict.irreflexive 1) h
  none_above zero (suc (suc r)) _ h _ = absurd (omega arith)
  none_above (suc zero) (suc (suc r)) _ h _ = absurd (omega arith)
  none_above (suc (suc q)) r h _ _ = absurd (omega arith)

  no_more : (x y : List ℕ) → NoWorseBy order x y → (r : ℕ) → r < 2 → get_or x r 0 ≤ get_or y r 0
  no_more x y h r inside = elim (cases_lt (get_or y r 0) (get_or x r 0)) [
    | inl loss ↦
        let e = h r (omega (arith, two, inside)) loss in
        absurd (none_above e.rule r (omega (arith, two, e.inside)) inside e.above)
    | inr le ↦ le
  ]

  no_worse_from : (x y : List ℕ) → get_or x 0 0 ≤ get_or y 0 0 → get_or x 1 0 ≤ get_or y 1 0 → NoWorseBy order x y
  no_worse_from x y a b r inside loss = elim (cases_eq r 0) [
    | inl e ↦ absurd (omega (arith, a, subst (λ n. get_or y n 0 < get_or x n 0) e loss))
    | inr ne ↦
        let e : r ≡ 1 = omega (arith, two, inside, ne) in
        absurd (omega (arith, b, subst (λ n. get_or y n 0 < get_or x n 0) e loss))
  ]

  pub trade_off : IsTradeOff (rules_of order) (no_worse_by order)
  trade_off = record {
    two = two;
    exact = λ x y _ _. (
      (λ t. (let h = (no_worse_by-words order x y).0 t in (no_more x y h 0 (omega arith), no_more x y h 1 (omega arith)))),
      (λ p. (no_worse_by-words order x y).1 (no_worse_from x y p.0 p.1)),
    );
  }
