-- What the words of wins and of the rules above a rule say of an excuse.
use Rattle.std.proofs.Common.{◌≡◌, ℕ, ◌<◌, ◌↔◌, Bool, false, ◌&&◌, eqb, ltb, List, length, get_or, sym, ap, ◌∙◌, inl, inr, arith}
use Rattle.std.specs.Cmp.{both_ways as same_test}
use Rattle.std.specs.Int.{bit_at}
use Rattle.std.specs.Prelude.{bit_and, IsTrue}
use Rattle.std.proofs.lemmas.Bool.{and_parts, and_from, both_ways, cases_Bool, cases_eq, eq-eqb, eqb-true, false≢true, lt-ltb, ltb-true}
use Rattle.std.proofs.lemmas.Nat.Bits.{bit_at_and, bit_at-lt, bit_at-zero, same_from_bits}
use Rattle.preorder.specs.Preorder.{rules_of}
use Rattle.preorder.specs.declared.order.Preorder.{Preorder}
use Rattle.rulebook_order.specs.NoWorseBy.{IsExcusedBy, NoWorseBy, is_excused, is_loss, no_worse_by}
use Rattle.rulebook_order.specs.Shapes.{AreWordsAbove}
use Rattle.rulebook_order.specs.laws.PairLaws.{is_excused-words, no_worse_by-words}

-- an answer that holds exactly where x is no worse is the test's
pub same_answer : (order : Preorder) (x y : List ℕ) (answer : Bool) → IsTrue answer ↔ NoWorseBy order x y → answer ≡ no_worse_by order x y
same_answer order x y answer words =
    let test = no_worse_by-words order x y in
    same_test _ _ (λ h. test.1 (words.0 h)) (λ h. words.1 (test.0 h))

-- "no" is right where x is worse
pub false_answer : (order : Preorder) (x y : List ℕ) → ¬ NoWorseBy order x y → IsTrue false ↔ NoWorseBy order x y
false_answer order x y worse = (λ e. absurd (false≢true e), λ h. absurd (worse h))

module _ (order : Preorder) (words : List ℕ) (exact : AreWordsAbove order words) (x y : List ℕ) (wide : length x ≡ rules_of order) (wins : ℕ) (wins_are : (q : ℕ) → eqb (bit_at wins q) 1 ≡ (ltb q (length x) && is_loss y x q)) (r : ℕ) (inside : r < rules_of order) where
  -- a common bit is an excuse
  excuse_at : (q : ℕ) → bit_at (get_or words r 0) q ≡ 1 → bit_at wins q ≡ 1 → IsExcusedBy order x y r
  excuse_at q upper winner =
      let parts = and_parts (ltb q (length x)) (is_loss y x q) (sym (wins_are q) ∙ eq-eqb (bit_at wins q) 1 winner) in
      record {
        rule = q;
        inside = omega (arith, wide, ltb-true q (length x) parts.0);
        above = sym (exact q r inside) ∙ eq-eqb (bit_at (get_or words r 0) q) 1 upper;
        win = ltb-true (get_or x q 0) (get_or y q 0) parts.1;
      }

  -- with no excuse there is no common bit
  no_bit : ¬ IsExcusedBy order x y r → (q : ℕ) → bit_at (bit_and (get_or words r 0) wins) q ≡ 0
  no_bit unexcused q = elim (cases_eq (bit_at (bit_and (get_or words r 0) wins) q) 0) [
    | inl none ↦ none
    | inr some ↦ absurd (unexcused (excuse_at q
        (omega (arith, some, bit_at_and (get_or words r 0) wins q, bit_at-lt (get_or words r 0) q, bit_at-lt wins q))
        (omega (arith, some, bit_at_and (get_or words r 0) wins q, bit_at-lt (get_or words r 0) q, bit_at-lt wins q))))
  ]

  pub excused_by_words : ¬ (bit_and (get_or words r 0) wins ≡ 0) → IsExcusedBy order x y r
  excused_by_words some = elim (cases_Bool (is_excused order x y r)) [
    | inl excused ↦ (is_excused-words order x y r).0 excused
    | inr none ↦ absurd (some (same_from_bits (bit_and (get_or words r 0) wins) 0 (λ q. no_bit (λ e. both_ways _ none ((is_excused-words order x y r).1 e)) q ∙ sym (bit_at-zero q))))
  ]

  pub unexcused_by_words : bit_and (get_or words r 0) wins ≡ 0 → ¬ IsExcusedBy order x y r
  unexcused_by_words none e =
      let q : ℕ = e.rule in
      let upper : bit_at (get_or words r 0) q ≡ 1 = eqb-true _ 1 (exact q r inside ∙ e.above) in
      let winner : bit_at wins q ≡ 1 = eqb-true _ 1 (wins_are q ∙ and_from (ltb q (length x)) (is_loss y x q) (lt-ltb q (length x) (omega (arith, wide, e.inside))) (lt-ltb (get_or x q 0) (get_or y q 0) e.win)) in
      omega (arith, upper, winner, bit_at_and (get_or words r 0) wins q, ap (λ n. bit_at n q) none, bit_at-zero q)

-- a rule with an empty word has no rule above it
pub unexcused_at_top : (order : Preorder) (words : List ℕ) → AreWordsAbove order words → (x y : List ℕ) (r : ℕ) → r < rules_of order → get_or words r 0 ≡ 0 → ¬ IsExcusedBy order x y r
unexcused_at_top order words exact x y r inside none e =
    let q : ℕ = e.rule in
    let upper : bit_at (get_or words r 0) q ≡ 1 = eqb-true _ 1 (exact q r inside ∙ e.above) in
    omega (arith, upper, ap (λ n. bit_at n q) none, bit_at-zero q)
