-- Peeling fronts finds the layers, where beating is a strict order.
use Rattle.std.specs.Prelude.{◌≡◌, ℕ, ◌<◌, ◌≤◌, Bool, false, ◌&&◌, nat_lt, List, length, IsTrue}
use Rattle.std.proofs.Common.{zero, suc, refl, ⊎_elim, arith}
use Rattle.std.proofs.lemmas.Bool.{and_parts, and_from, not-true, not_from_false, false_from_ne_true, both_ways, cases_Bool, cond-true, cond-false, ltb-true, lt-ltb}
use Rattle.rulebook_order.specs.Front.{vector_at}
use Rattle.rulebook_order.specs.VectorOrder.{IsVectorOrder}
use Rattle.rulebook_order.specs.laws.Below.{any_below, any_below-found}
use Rattle.rulebook_order.specs.laws.Count.{count_below, count_below-lt, by_measure}
use Rattle.rulebook_order.specs.laws.Strict.{IsStrictOrder}
use Rattle.trajectory_judge.specs.Layers.{beats_at}

pub any_below-none : (p : ℕ → Bool) (n : ℕ) → ((k : ℕ) → k < n → p k ≡ false) → any_below p n ≡ false
any_below-none p n none = false_from_ne_true _ (λ h. let found = any_below-found p n h in both_ways _ (none found.0 found.1) found.2)

pub any_below-same : (p q : ℕ → Bool) (n : ℕ) → ((k : ℕ) → k < n → p k ≡ q k) → any_below p n ≡ any_below q n
any_below-same p q zero same = refl
any_below-same p q (suc n) same = rw (any_below-same p q n (λ k inside. same k (omega arith)), same n (omega arith)) refl

pub count_le : (p : ℕ → Bool) (n : ℕ) → count_below p n ≤ n
count_le p zero = omega arith
count_le p (suc n) =
    ⊎_elim (λ e. omega (arith, count_le p n, cond-true {A = ℕ} (p n) 1 0 e)) (λ e. omega (arith, count_le p n, cond-false {A = ℕ} (p n) 1 0 e)) (cases_Bool (p n))

-- in a set that is not empty, some place is beaten by none of them
module _ (size : ℕ) (beating : ℕ → ℕ → Bool) (strict : IsStrictOrder size beating) where
  height : ℕ → ℕ
  height r = count_below (λ q. beating q r) size

  height-falls : (q r : ℕ) → IsTrue (beating q r) → height q < height r
  unfolding height
  height-falls q r h =
      count_below-lt (λ s. beating s q) (λ s. beating s r) (λ s k. strict.transitive s q r k h) q h (strict.irreflexive q) size (strict.within q r h).0

  pub record IsUnbeaten (left : ℕ → Bool) : Type 0 where
    pub place : ℕ
    pub inside : place < size
    pub is_left : IsTrue (left place)
    pub by_none : any_below (λ k. left k && beating k place) size ≡ false

  pub unbeaten : (left : ℕ → Bool) (i : ℕ) → i < size → IsTrue (left i) → IsUnbeaten left
  unbeaten left i = by_measure (λ i. i < size → IsTrue (left i) → IsUnbeaten left) height
      (λ r up inside is_left.
      ⊎_elim
      (λ beaten.
      let found = any_below-found (λ k. left k && beating k r) size beaten in
      let parts = and_parts (left found.0) (beating found.0 r) found.2 in
      up found.0 (height-falls found.0 r parts.1) found.1 parts.0)
      (λ none. record { place = r; inside = inside; is_left = is_left; by_none = none })
      (cases_Bool (any_below (λ k. left k && beating k r) size)))
      i

-- what beats what among vectors of one width, by an order on them
module _ (no_worse : List ℕ → List ℕ → Bool) (width : ℕ) (order : IsVectorOrder width no_worse) (vectors : List (List ℕ)) (wide : (i : ℕ) → i < length vectors → length (vector_at vectors i) ≡ width) where
  size : ℕ
  size = length vectors

  beating : ℕ → ℕ → Bool
  beating = beats_at no_worse vectors

  IsBeating : ℕ → ℕ → Type 0
  IsBeating i j = IsTrue (beating i j)

  record Beating (i j : ℕ) : Type 0 where
    first : i < length vectors
    second : j < length vectors
    no_worse_is : IsTrue (no_worse (vector_at vectors i) (vector_at vectors j))
    one_way : no_worse (vector_at vectors j) (vector_at vectors i) ≡ false

  parts_of : (i j : ℕ) → IsTrue (beats_at no_worse vectors i j) → Beating i j
  parts_of i j h =
      let a = and_parts (nat_lt i (length vectors)) _ h in
      let b = and_parts (nat_lt j (length vectors)) _ a.1 in
      let c = and_parts (no_worse (vector_at vectors i) (vector_at vectors j)) _ b.1 in
      record { first = ltb-true _ _ a.0; second = ltb-true _ _ b.0; no_worse_is = c.0; one_way = not-true _ c.1 }

  from_parts : (i j : ℕ) → Beating i j → IsTrue (beats_at no_worse vectors i j)
  from_parts i j b = and_from _ _ (lt-ltb _ _ b.first) (and_from _ _ (lt-ltb _ _ b.second) (and_from _ _ b.no_worse_is (not_from_false _ b.one_way)))

  pub strict : IsStrictOrder (length vectors) (beats_at no_worse vectors)
  strict = record {
    within = λ i j h. let b = parts_of i j h in (b.first, b.second);
    irreflexive = λ i. false_from_ne_true _ (λ h. let b = parts_of i i h in both_ways _ b.one_way b.no_worse_is);
    transitive = λ i j k h g.
        let a = parts_of i j h in
        let b = parts_of j k g in
        let wi = wide i a.first in
        let wj = wide j a.second in
        let wk = wide k b.second in
        from_parts i k (record {
          first = a.first;
          second = b.second;
          no_worse_is = order.transitive _ _ _ wi wj wk a.no_worse_is b.no_worse_is;
          one_way = false_from_ne_true _ (λ back. both_ways _ a.one_way (order.transitive _ _ _ wj wk wi b.no_worse_is back));
        });
  }
