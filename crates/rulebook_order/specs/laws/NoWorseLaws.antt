use Rattle.std.specs.Prelude.{◌≡◌, ℕ, ◌<◌, Bool, List, IsTrue, length, slice_index}
use Rattle.std.proofs.Common.{◌⊎◌, ◌↔◌, ◌∙◌, sym, inl, inr, ⊎_elim, arith}
use Rattle.std.proofs.lemmas.Bool.{cases_order, cases_lt}
use Rattle.std.proofs.lemmas.Grind.{same_number_lists}
use Rattle.rulebook_order.specs.laws.Count.{count_below, count_below-lt, by_measure}
use Rattle.rulebook_order.specs.NoWorse.{IsExcused, NoWorse}
use Rattle.rulebook_order.specs.laws.Strict.{IsStrictOrder}
use Rattle.rulebook_order.specs.Sums.{sums}
use Rattle.rulebook_order.specs.laws.SumLaws.{slice_index-sums}

-- The laws of "no worse" where what is above what is a strict order.
module _ (size : ℕ) (above : ℕ → ℕ → Bool) (strict : IsStrictOrder size above) where
  abbrev Above : ℕ → ℕ → Type 0
  Above q r = IsTrue (above q r)

  -- how many rules are above r
  height : ℕ → ℕ
  height r = count_below (λ q. above q r) size

  height-falls : (q r : ℕ) → IsTrue (above q r) → height q < height r
  unfolding height
  height-falls q r h =
      count_below-lt (λ s. above s q) (λ s. above s r) (λ s k. strict.transitive s q r k h) q h
      (strict.irreflexive q) size (strict.within q r h).0

  -- what holds of r where it holds of each rule above r holds of every rule
  from_above : (P : ℕ → Type 0) → ((r : ℕ) → ((q : ℕ) → IsTrue (above q r) → P q) → P r) → (r : ℕ)
      → P r
  from_above P step = by_measure P height (λ r below. step r (λ q h. below q (height-falls q r h)))

  -- reflexive
  pub NoWorse-refl : (x : List ℕ) → NoWorse size Above x x
  NoWorse-refl x r inside loss = absurd (omega arith)

  -- transitive
  pub NoWorse-trans : (x y z : List ℕ) → NoWorse size Above x y → NoWorse size Above y z
      → NoWorse size Above x z
  NoWorse-trans x y z xy yz r inside loss =
      from_above Claim step r inside (loses_somewhere r loss) where
        Claim : ℕ → Type 0
        Claim r =
            r < size → (slice_index y r < slice_index x r) ⊎ (slice_index z r < slice_index y r)
            → IsExcused size Above x z r

        loses_somewhere : (r : ℕ) → slice_index z r < slice_index x r
            → (slice_index y r < slice_index x r) ⊎ (slice_index z r < slice_index y r)
        loses_somewhere r loss =
            ⊎_elim (λ h. inl h) (λ h. inr (omega arith)) (cases_lt (slice_index y r) (slice_index x r))

        raise : (q r : ℕ) → IsTrue (above q r) → IsExcused size Above x z q → IsExcused size Above x z r
        raise q r h e =
            record {
              rule = e.rule;
              inside = e.inside;
              above = strict.transitive e.rule q r e.above h;
              win = e.win;
            }

        step : (r : ℕ) → ((q : ℕ) → IsTrue (above q r) → Claim q) → Claim r
        step r up inside loss =
            ⊎_elim
            (λ h. let e = xy r inside h in
            ⊎_elim (λ win. record { rule = e.rule; inside = e.inside; above = e.above; win = win })
            (λ loses. raise e.rule r e.above (up e.rule e.above e.inside (inr (omega (arith, e.win)))))
            (cases_lt (slice_index x e.rule) (slice_index z e.rule)))
            (λ h. let e = yz r inside h in
            ⊎_elim (λ win. record { rule = e.rule; inside = e.inside; above = e.above; win = win })
            (λ loses. raise e.rule r e.above (up e.rule e.above e.inside (inl (omega (arith, e.win)))))
            (cases_lt (slice_index x e.rule) (slice_index z e.rule)))
            loss

  -- related both ways only where equal
  pub NoWorse-antisym : (x y : List ℕ) → length x ≡ size → length y ≡ size → NoWorse size Above x y
      → NoWorse size Above y x → x ≡ y
  NoWorse-antisym x y lx ly xy yx =
      same_number_lists x y (lx ∙ sym ly) (λ k h. from_above
      (λ r. r < size → slice_index x r ≡ slice_index y r) step k (omega (arith, lx))) where
        step : (r : ℕ) → ((q : ℕ) → IsTrue (above q r) → q < size → slice_index x q ≡ slice_index y q)
            → r < size → slice_index x r ≡ slice_index y r
        step r up inside =
            ⊎_elim (λ e. e)
            (λ d. absurd (⊎_elim
            (λ less. let e = yx r inside less in omega (arith, e.win, up e.rule e.above e.inside))
            (λ more. let e = xy r inside more in omega (arith, e.win, up e.rule e.above e.inside))
            d))
            (cases_order (slice_index x r) (slice_index y r))

  added : (x y z : List ℕ) → length x ≡ size → length y ≡ size → length z ≡ size → (r : ℕ)
      → r < size → (slice_index (sums x z) r < slice_index (sums y z) r)
      ↔ (slice_index x r < slice_index y r)
  added x y z lx ly lz r h =
      let ex = slice_index-sums x z r (omega (arith, lx)) (omega (arith, lz)) in
      let ey = slice_index-sums y z r (omega (arith, ly)) (omega (arith, lz)) in
      (λ lt. omega (arith, ex, ey), λ lt. omega (arith, ex, ey))

  -- unchanged by adding one list to both sides
  pub NoWorse-sums : (x y z : List ℕ) → length x ≡ size → length y ≡ size → length z ≡ size
      → NoWorse size Above (sums x z) (sums y z) ↔ NoWorse size Above x y
  NoWorse-sums x y z lx ly lz = (
    λ h r inside loss.
        let e = h r inside ((added y x z ly lx lz r inside).1 loss) in
        record {
          rule = e.rule;
          inside = e.inside;
          above = e.above;
          win = (added x y z lx ly lz e.rule e.inside).0 e.win;
        },
    λ h r inside loss.
        let e = h r inside ((added y x z ly lx lz r inside).0 loss) in
        record {
          rule = e.rule;
          inside = e.inside;
          above = e.above;
          win = (added x y z lx ly lz e.rule e.inside).1 e.win;
        },
  )
