-- A child that ranks what rules become as its parent ranks the rules keeps the parent's preferences.
use Rattle.std.specs.Prelude.{◌≡◌, ◌≢◌, ℕ, ◌<◌, ◌≤◌, Bool, not, ◌&&◌, List, IsTrue, slice_index, nat_eq, nat_lt}
use Rattle.std.proofs.Common.{◌⊎◌, inl, inr, ⊎_elim, refl, sym, ap, subst, arith}
use Rattle.std.proofs.lemmas.Bool.{and_parts, and_from, not-true, not_from_false, false_from_ne_true, both_ways, cases_Bool, cases_lt, cases_order, ltb-true, lt-ltb, eqb-true, eq-eqb}
use Rattle.std.proofs.lemmas.Bool.Decides.{eqb_tells}
use Rattle.preorder.specs.Preorder.{rules_of, at_least, above, same}
use Rattle.preorder.specs.declared.order.Preorder.{Preorder}
use Rattle.rulebook_order.specs.laws.Below.{any_below, any_below-found, any_below-from}
use Rattle.rulebook_order.specs.laws.Count.{count_below, count_below-lt, by_measure}
use Rattle.rulebook_order.specs.NoWorse.{Beats}
use Rattle.rulebook_order.specs.NoWorseBy.{IsAboveBy, IsExcusedBy, NoWorseBy}
use Rattle.rulebook_order.specs.laws.PairLaws.{NoWorseBy-antisym}
use Rattle.rulebook_order.specs.laws.Strict.{IsStrictOrder, strict_part}
use Rattle.book_operations.specs.Derivation.{Derivation, Carries, KeepsPreferencesBy, KeepsRanks}
use Rattle.book_operations.proofs.Shares.{Carries-less, Carries-found}

module _ (order : Preorder) where
  strict_order : IsStrictOrder (rules_of order) (above order)
  strict_order = strict_part _ _ order.closed

  -- what is above a rule is above each that is the same
  above-same : (q a b : ℕ) → IsTrue (same order a b) → IsAboveBy order q a → IsAboveBy order q b
  above-same q a b is_same is_above =
      let ab = and_parts (at_least order a b) _ is_same in
      let qa = and_parts (at_least order q a) (not (at_least order a q)) is_above in
      and_from _ _ (order.closed.transitive q a b qa.0 ab.0)
      (not_from_false (at_least order b q) (false_from_ne_true _ (λ bq. both_ways _ (not-true _ qa.1) (order.closed.transitive a b q ab.0 bq))))

  -- how many rules are above r
  height : ℕ → ℕ
  height r = count_below (λ q. above order q r) (rules_of order)

  height-falls : (q r : ℕ) → IsAboveBy order q r → height q < height r
  unfolding height
  height-falls q r h =
      count_below-lt (λ s. above order s q) (λ s. above order s r) (λ s k. strict_order.transitive s q r k h) q h (strict_order.irreflexive q) (rules_of order) (strict_order.within q r h).0

  from_above : (P : ℕ → Type 0) → ((r : ℕ) → ((q : ℕ) → IsAboveBy order q r → P q) → P r) → (r : ℕ) → P r
  from_above P step = by_measure P height (λ r below. step r (λ q h. below q (height-falls q r h)))

-- rule m at or above r decides: it is violated less in x, and no rule above it is violated differently
record Decides (order : Preorder) (x y : List ℕ) (r : ℕ) : Type 0 where
  rule : ℕ
  inside : rule < rules_of order
  at_or_above : (rule ≡ r) ⊎ IsAboveBy order rule r
  win : slice_index x rule < slice_index y rule
  equal_above : (q : ℕ) → IsAboveBy order q rule → slice_index x q ≡ slice_index y q

module _ (order : Preorder) (x y : List ℕ) (no_worse : NoWorseBy order x y) where
  abbrev is_other_above : ℕ → ℕ → Bool
  is_other_above r q = above order q r && not (nat_eq (slice_index x q) (slice_index y q))

  -- at or above each rule that is violated differently, one decides for x
  decides : (r : ℕ) → r < rules_of order → slice_index x r ≢ slice_index y r → Decides order x y r
  decides = from_above order (λ r. r < rules_of order → slice_index x r ≢ slice_index y r → Decides order x y r) step where
    strict : IsStrictOrder (rules_of order) (above order)
    strict = strict_order order

    raise : (q r : ℕ) → IsAboveBy order q r → Decides order x y q → Decides order x y r
    raise q r h d = record {
      rule = d.rule;
      inside = d.inside;
      at_or_above = inr (⊎_elim (λ (e : d.rule ≡ q). subst (λ m. IsAboveBy order m r) (sym e) h) (λ up. strict.transitive d.rule q r up h) d.at_or_above);
      win = d.win;
      equal_above = d.equal_above;
    }

    topmost : (r : ℕ) → r < rules_of order → slice_index x r ≢ slice_index y r → ((q : ℕ) → IsAboveBy order q r → slice_index x q ≡ slice_index y q) → Decides order x y r
    topmost r inside other equal = record {
      rule = r;
      inside = inside;
      at_or_above = inl refl;
      win = ⊎_elim (λ e. absurd (other e))
          (λ d. ⊎_elim (λ win. win) (λ loss. let e = no_worse r inside loss in absurd (omega (arith, e.win, equal e.rule e.above))) d)
          (cases_order (slice_index x r) (slice_index y r));
      equal_above = equal;
    }

    step : (r : ℕ) → ((q : ℕ) → IsAboveBy order q r → q < rules_of order → slice_index x q ≢ slice_index y q → Decides order x y q) → r < rules_of order → slice_index x r ≢ slice_index y r → Decides order x y r
    step r up inside other =
        ⊎_elim
        (λ some.
        let found = any_below-found (is_other_above r) (rules_of order) some in
        let parts = and_parts (above order found.0 r) _ found.2 in
        raise found.0 r parts.0 (up found.0 parts.0 found.1 (λ e. both_ways _ (not-true _ parts.1) (eq-eqb _ _ e))))
        (λ none. topmost r inside other (λ q h.
        ⊎_elim (λ e. e.1)
        (λ ne. absurd (both_ways _ none (any_below-from (is_other_above r) (rules_of order) q (strict.within q r h).0 (and_from _ _ h (not_from_false _ ne.0)))))
        (eqb_tells (slice_index x q) (slice_index y q))))
        (cases_Bool (any_below (is_other_above r) (rules_of order)))

module _ (parent child : Preorder) (derivation : Derivation) (keeps : KeepsRanks parent child derivation) where
  module _ (x y child_x child_y : List ℕ) (carries_x : Carries (rules_of parent) (rules_of child) derivation x child_x) (carries_y : Carries (rules_of parent) (rules_of child) derivation y child_y) where
    module _ (no_worse : NoWorseBy parent x y) where
      -- where a rule decides for x, no rule of its class is violated more in x, so that what it becomes is violated less in child_x
      child-win : (r : ℕ) (d : Decides parent x y r) → slice_index child_x (derivation.image d.rule) < slice_index child_y (derivation.image d.rule)
      child-win r d = Carries-less (rules_of parent) (rules_of child) derivation x y child_x child_y carries_x carries_y d.rule d.inside (keeps.counted d.rule d.inside) d.win no_loss where
        no_loss : (k : ℕ) → k < rules_of parent → derivation.image k ≡ derivation.image d.rule → slice_index x k ≤ slice_index y k
        no_loss k inside same_image =
            ⊎_elim
            (λ loss.
            let e = no_worse k inside loss in
            let up = above-same parent e.rule k d.rule (keeps.one_class k d.rule inside d.inside same_image) e.above in
            absurd (omega (arith, e.win, d.equal_above e.rule up)))
            (λ kept. kept)
            (cases_lt (slice_index y k) (slice_index x k))

      -- what a rule becomes is violated more in child_x: so is a rule of the class in x, and what decides above it excuses both
      image-excused : (r : ℕ) → r < rules_of parent → slice_index child_y (derivation.image r) < slice_index child_x (derivation.image r) → IsExcusedBy child child_x child_y (derivation.image r)
      image-excused r inside loss =
          let lost = Carries-found (rules_of parent) (rules_of child) derivation y x child_y child_x carries_y carries_x r inside loss in
          let k = lost.0 in
          let e = no_worse k lost.1 lost.3 in
          let d = decides parent x y no_worse e.rule e.inside (λ same_value. omega (arith, e.win, same_value)) in
          let up = ⊎_elim (λ (is : d.rule ≡ e.rule). subst (λ m. IsAboveBy parent m k) (sym is) e.above) (λ h. (strict_order parent).transitive d.rule e.rule k h e.above) d.at_or_above in
          record {
            rule = derivation.image d.rule;
            inside = keeps.inside d.rule d.inside;
            above = subst (λ c. IsAboveBy child (derivation.image d.rule) c) lost.2 (keeps.strict d.rule k up);
            win = child-win e.rule d;
          }

      -- x is violated less than y somewhere
      module _ (w : ℕ) (w-inside : w < rules_of parent) (w-win : slice_index x w < slice_index y w) where
        top : Decides parent x y w
        top = decides parent x y no_worse w w-inside (λ same_value. omega (arith, w-win, same_value))

        child-no_worse : NoWorseBy child child_x child_y
        child-no_worse c inside loss =
            ⊎_elim
            (λ some.
            let found = any_below-found (λ r. nat_eq (derivation.image r) c) (rules_of parent) some in
            let is = eqb-true _ _ found.2 in
            subst (λ q. IsExcusedBy child child_x child_y q) is (image-excused found.0 found.1 (subst (λ q. slice_index child_y q < slice_index child_x q) (sym is) loss)))
            (λ none. record {
              rule = derivation.image top.rule;
              inside = keeps.inside top.rule top.inside;
              above = keeps.lowest top.rule c top.inside inside (λ r h e. both_ways _ none (any_below-from (λ r. nat_eq (derivation.image r) c) (rules_of parent) r h (eq-eqb _ _ e)));
              win = child-win w top;
            })
            (cases_Bool (any_below (λ r. nat_eq (derivation.image r) c) (rules_of parent)))

        child-beats : Beats (NoWorseBy child) child_x child_y
        child-beats = record {
          no_worse = child-no_worse;
          one_way = λ back.
              let equal = NoWorseBy-antisym child child_x child_y carries_x.child_width carries_y.child_width child-no_worse back in
              omega (arith, child-win w top, ap (λ l. slice_index l (derivation.image top.rule)) equal);
        }

  -- what the tests accept keeps preferences
  pub KeepsPreferencesBy-from_ranks : KeepsPreferencesBy parent child derivation
  KeepsPreferencesBy-from_ranks x y child_x child_y carries_x carries_y beats =
      ⊎_elim
      (λ some.
      let found = any_below-found (λ r. nat_lt (slice_index x r) (slice_index y r)) (rules_of parent) some in
      child-beats x y child_x child_y carries_x carries_y beats.no_worse found.0 found.1 (ltb-true _ _ found.2))
      (λ none. absurd (beats.one_way (λ r inside loss. absurd (both_ways _ none (any_below-from (λ r. nat_lt (slice_index x r) (slice_index y r)) (rules_of parent) r inside (lt-ltb _ _ loss))))))
      (cases_Bool (any_below (λ r. nat_lt (slice_index x r) (slice_index y r)) (rules_of parent)))
