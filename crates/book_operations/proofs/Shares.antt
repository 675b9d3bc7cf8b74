-- What two vectors of a parent say of the vectors that carry them.
use Rattle.std.specs.Prelude.{◌≡◌, ◌≢◌, ℕ, ◌*◌, ◌<◌, ◌≤◌, false, List, length, map, slice_index, nat_eq}
use Rattle.std.proofs.Common.{◌∙◌, ⊎_elim, refl, zero, suc, arith}
use Rattle.std.proofs.Math.Nat.{mul-le-mul_left}
use Rattle.std.proofs.lemmas.Bool.{cases_lt, cases_eq, cond-true, cond-false, eq-eqb}
use Rattle.std.proofs.lemmas.Bool.Decides.{eqb_tells}
use Rattle.std.specs.List.{range_with_len}
use Rattle.std.proofs.lemmas.List.FromFn.{get_or-map-range_with_len, length-map-range_with_len}
use Rattle.book_operations.specs.Derivation.{Derivation, share, Carries}
use Rattle.book_operations.specs.SumBelow.{sum_below, sum_below-lt, sum_below-found}

module _ (derivation : Derivation) (x y : List ℕ) (c k : ℕ) where
  pub share-here : (z : List ℕ) → derivation.image k ≡ c → share derivation z c k ≡ derivation.times k * slice_index z k
  share-here z e = cond-true {A = ℕ} (nat_eq (derivation.image k) c) _ 0 (eq-eqb _ _ e)

  pub share-elsewhere : (z : List ℕ) → nat_eq (derivation.image k) c ≡ false → share derivation z c k ≡ 0
  share-elsewhere z e = cond-false {A = ℕ} (nat_eq (derivation.image k) c) _ 0 e

  share-le : (derivation.image k ≡ c → slice_index x k ≤ slice_index y k) → share derivation x c k ≤ share derivation y c k
  share-le h =
      ⊎_elim (λ e. omega (arith, share-here x e.1, share-here y e.1, mul-le-mul_left (derivation.times k) (h e.1)))
      (λ ne. omega (arith, share-elsewhere x ne.0, share-elsewhere y ne.0))
      (eqb_tells (derivation.image k) c)

  share-lt : derivation.image k ≡ c → 1 ≤ derivation.times k → slice_index x k < slice_index y k → share derivation x c k < share derivation y c k
  share-lt e counted less = omega (arith, share-here x e, share-here y e, counted, mul-less (derivation.times k) (slice_index x k) (slice_index y k) counted less) where
    mul-less : (t a b : ℕ) → 1 ≤ t → a < b → t * a < t * b
    mul-less t a b h l = grind arith

module _ (size child_size : ℕ) (derivation : Derivation) (x y child_x child_y : List ℕ) (carries_x : Carries size child_size derivation x child_x) (carries_y : Carries size child_size derivation y child_y) where
  -- where rule m is violated less in x, and no rule that becomes the same is violated more, what it becomes is violated less
  pub Carries-less : (m : ℕ) → m < size → 1 ≤ derivation.times m → slice_index x m < slice_index y m → ((k : ℕ) → k < size → derivation.image k ≡ derivation.image m → slice_index x k ≤ slice_index y k) → slice_index child_x (derivation.image m) < slice_index child_y (derivation.image m)
  Carries-less m inside counted win no_loss =
      let c = derivation.image m in
      let less = sum_below-lt (share derivation x c) (share derivation y c) size
      (λ k h. share-le derivation x y c k (no_loss k h)) m inside (share-lt derivation x y c m refl counted win) in
      omega (arith, carries_x.total m inside, carries_y.total m inside, less)

  -- where what rule r becomes is violated less in child_x, so is one of the rules that become it in x
  pub Carries-found : (r : ℕ) → r < size → slice_index child_x (derivation.image r) < slice_index child_y (derivation.image r) → (k : ℕ) × (k < size) × (derivation.image k ≡ derivation.image r) × (slice_index x k < slice_index y k)
  Carries-found r inside win =
      let c = derivation.image r in
      let found = sum_below-found (share derivation y c) (share derivation x c) size (omega (arith, win, carries_x.total r inside, carries_y.total r inside)) in
      ⊎_elim (λ e. (
        found.0,
        found.1,
        e.1,
        ⊎_elim (λ less. less) (λ no. absurd (omega (arith, found.2, share-le derivation y x c found.0 (λ _. no)))) (cases_lt (slice_index x found.0) (slice_index y found.0)),
      ))
      (λ ne. absurd (omega (arith, found.2, share-elsewhere derivation x y c found.0 x ne.0, share-elsewhere derivation x y c found.0 y ne.0)))
      (eqb_tells (derivation.image found.0) c)

sum_below-none : (f : ℕ → ℕ) (n : ℕ) → ((k : ℕ) → k < n → f k ≡ 0) → sum_below f n ≡ 0
sum_below-none f zero h = refl
sum_below-none f (suc n) h = omega (arith, sum_below-none f n (λ k lt. h k (omega (arith, lt))), h n (omega arith))

-- the vector of the sums: it carries the other, and violates no added rule
module _ (size child_size : ℕ) (derivation : Derivation) (x : List ℕ) where
  abbrev pub carried : List ℕ
  carried = map (λ c. sum_below (share derivation x c) size) (range_with_len 0 child_size)

  pub Carries-carried : length x ≡ size → ((r : ℕ) → r < size → derivation.image r < child_size) → Carries size child_size derivation x carried
  Carries-carried width inside = record {
    width = width;
    child_width = length-map-range_with_len (λ c. sum_below (share derivation x c) size) 0 child_size;
    total = λ r h. get_or-map-range_with_len (λ c. sum_below (share derivation x c) size) 0 child_size (derivation.image r) (derivation.image r) 0 (inside r h) (omega arith);
  }

  pub carried-added : (c : ℕ) → c < child_size → ((r : ℕ) → r < size → derivation.image r ≢ c) → slice_index carried c ≡ 0
  carried-added c h added =
      get_or-map-range_with_len (λ c. sum_below (share derivation x c) size) 0 child_size c c 0 h (omega arith)
      ∙ sum_below-none (share derivation x c) size (λ k hk. ⊎_elim (λ e. absurd (added k hk e.1)) (λ ne. share-elsewhere derivation x x c k x ne.0) (eqb_tells (derivation.image k) c))

-- a sum of one summand
pub sum_below-one : (f : ℕ → ℕ) (r n : ℕ) → r < n → ((k : ℕ) → k < n → (k ≡ r → ⊥) → f k ≡ 0) → sum_below f n ≡ f r
sum_below-one f r zero inside h = absurd (omega (arith, inside))
sum_below-one f r (suc n) inside h =
    ⊎_elim (λ (e : r ≡ n). omega (arith, sum_below-none n (λ k lt. h k (omega (arith, lt)) (λ is. omega (arith, is, e, lt))), same_at r n e))
    (λ (ne : r ≡ n → ⊥). omega (arith, sum_below-one f r n (omega (arith, ne, inside)) (λ k lt. h k (omega (arith, lt))), h n (omega arith) (λ e. omega (arith, ne, e))))
    (cases_eq r n) where
      sum_below-none : (n : ℕ) → ((k : ℕ) → k < n → f k ≡ 0) → sum_below f n ≡ 0
      sum_below-none zero h = refl
      sum_below-none (suc n) h = omega (arith, sum_below-none n (λ k lt. h k (omega (arith, lt))), h n (omega arith))

      same_at : (r n : ℕ) → r ≡ n → f r ≡ f n
      same_at r n e = cc e

-- where each rule is kept, with a multiplier of 1, a vector with the same values carries the other
pub Carries-from_kept : (size child_size : ℕ) (derivation : Derivation) (x child_x : List ℕ) → length x ≡ size → length child_x ≡ child_size → ((k r : ℕ) → k < size → r < size → derivation.image k ≡ derivation.image r → k ≡ r) → ((r : ℕ) → derivation.times r ≡ 1) → ((r : ℕ) → r < size → slice_index child_x (derivation.image r) ≡ slice_index x r) → Carries size child_size derivation x child_x
Carries-from_kept size child_size derivation x child_x width child_width alone once same_value = record { width = width; child_width = child_width; total = total } where
  total : (r : ℕ) → r < size → slice_index child_x (derivation.image r) ≡ sum_below (share derivation x (derivation.image r)) size
  total r inside =
      let c = derivation.image r in
      let only = sum_below-one (share derivation x c) r size inside (λ k h other.
      ⊎_elim (λ e. absurd (other (alone k r h inside e.1))) (λ ne. share-elsewhere derivation x x c k x ne.0) (eqb_tells (derivation.image k) c)) in
      times_once (slice_index child_x c) (sum_below (share derivation x c) size) (share derivation x c r) (derivation.times r) (slice_index x r) (same_value r inside) only (share-here derivation x x c r x refl) (once r) where
        times_once : (a s f t v : ℕ) → a ≡ v → s ≡ f → f ≡ t * v → t ≡ 1 → a ≡ s
        times_once a s f t v e1 e2 e3 e4 = grind arith
