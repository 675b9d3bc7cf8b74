-- Answers, and vectors, in ascending order; and that there is one such order of them.
use Rattle.std.proofs.Common.{◌≡◌, ◌≢◌, ◌↔◌, ℕ, zero, suc, ◌+◌, ◌<◌, Bor, Ordering, Less, Equal, Greater, ◌≤◌, Bool, true, false, List, [], ◌∷◌, length, map, get_or, refl, sym, ap, ◌∙◌, subst, arith, inl, inr}
use Rattle.std.specs.Prelude.{AllPairs, Contains, ◌⊎◌}
use Rattle.std.specs.Cmp.Lexicographic.{slice_cmp}
use Rattle.std.specs.List.{AllByRecursion, IsDistinct}
use Rattle.std.specs.List.Sorted.{IsPermutation, IsSortedBy, IsStrictlySortedBy}
use Rattle.std.specs.Ordering.{is_lt, is_eq, ordering_reverse, nat_cmp}
use Rattle.std.specs.Str.{bytes_eq}
use Rattle.std.proofs.lemmas.Bool.{cases_Bool}
use Rattle.std.specs.Cmp.{IsStrictWeakOrder}
use Rattle.std.proofs.lemmas.Cmp.{nat_list_cmp_total}
use Rattle.std.proofs.lemmas.List.{get_or-map, length-map, map-id}
use Rattle.std.proofs.lemmas.List.MinMax.{ranks_by}
use Rattle.std.proofs.lemmas.List.Sorted.{sorted_far, IsPermutation-map}
use Rattle.std.proofs.lemmas.Map.Keys.{IsDistinct-IsPermutation}
use Rattle.std.proofs.lemmas.Map.Text.{is_eq-slice_cmp}
use Rattle.std.proofs.lemmas.Slice.Eq.{bytes_eq-Decides}
use Rattle.certificate_checker.specs.declared.checked.Attained.{Attained}
use Rattle.check_command.specs.Answers.{AreAscending, comes_before}

abbrev order : List ℕ → List ℕ → Ordering
order v w = slice_cmp nat_cmp v w

-- ---- what a sort gives

flipped : (o p : Ordering) → o ≡ ordering_reverse p → is_lt p ≡ false → is_eq o ≡ false → o ≡ Less
flipped Less p e lt eq = refl
flipped Equal p e lt eq = absurd cc
flipped Greater Less e lt eq = absurd cc
flipped Greater Equal e lt eq = absurd cc
flipped Greater Greater e lt eq = absurd cc

less : (v w : List ℕ) → is_lt (order w v) ≡ false → bytes_eq v w ≡ false → order v w ≡ Less
less v w lt other = flipped (order v w) (order w v) (nat_list_cmp_total.antisymm v w) lt (is_eq-slice_cmp v w ∙ other)

module _ {X : Type 0} (key : X → List ℕ) where
  abbrev is_before : X → X → Bool
  is_before x y = is_lt (order (key x) (key y))

  above : (x : X) (xs : List X) → ((j : ℕ) (d : X) → j < length xs → is_before (get_or xs j d) x ≡ false) → AllByRecursion (λ w. bytes_eq (key x) w ≡ false) (map key xs)
      → AllByRecursion (λ w. order (key x) w ≡ Less) (map key xs)
  above x [] far other = tt
  above x (y ∷ ys) far other = (less (key x) (key y) (far 0 x (omega arith)) other.0, above x ys (λ j d h. far (suc j) d (omega (arith, h))) other.1)

  strictly : (xs : List X) → ((i j : ℕ) (d : X) → i ≤ j → j < length xs → is_before (get_or xs j d) (get_or xs i d) ≡ false) → IsDistinct bytes_eq (map key xs) → AreAscending (map key xs)
  unfolding IsStrictlySortedBy IsDistinct
  strictly [] far other = tt
  strictly (x ∷ xs) far other = (
    above x xs (λ j d h. far 0 (suc j) d (omega arith) (omega (arith, h))) other.0,
    strictly xs (λ i j d h k. far (suc i) (suc j) d (omega (arith, h)) (omega (arith, k))) other.1,
  )

differs : (v w : List ℕ) → v ≢ w → bytes_eq v w ≡ false
differs v w other = elim (cases_Bool (bytes_eq v w)) [
  | inl same ↦ absurd (other ((bytes_eq-Decides v w).0 same))
  | inr false_is ↦ false_is
]

apart_from : (v : List ℕ) (vs : List (List ℕ)) → ((j : ℕ) (d : List ℕ) → j < length vs → v ≢ get_or vs j d) → AllByRecursion (λ w. bytes_eq v w ≡ false) vs
apart_from v [] other = tt
apart_from v (w ∷ ws) other = (differs v w (other 0 v (omega arith)), apart_from v ws (λ j d h. other (suc j) d (omega (arith, h))))

distinct : (vs : List (List ℕ)) → AllPairs (λ v w. v ≢ w) vs → IsDistinct bytes_eq vs
unfolding IsDistinct
distinct [] other = tt
distinct (v ∷ vs) other = (apart_from v vs (λ j d h. other 0 (suc j) d (omega arith) (omega (arith, h))), distinct vs (λ i j d h k. other (suc i) (suc j) d (omega (arith, h)) (omega (arith, k))))

-- equality of texts looks the same from both sides
pub flips : (v w : List ℕ) → bytes_eq v w ≡ bytes_eq w v
flips v w = elim (cases_Bool (bytes_eq w v)) [
  | inl same ↦ rw ((bytes_eq-Decides w v).0 same) refl
  | inr other ↦ differs v w (λ e. absurd (clash (sym other ∙ (bytes_eq-Decides w v).1 (sym e)))) ∙ sym other
]
  where
    clash : false ≡ true → ⊥
    clash e = cc

module _ {X : Type 0} (key : X → List ℕ) where
  -- a list that is sorted by vectors which differ has them in ascending order
  pub sorted_ascends : (xs sorted : List X) → AllPairs (λ v w. v ≢ w) (map key xs) → IsPermutation xs sorted → IsSortedBy (is_before key) sorted → AreAscending (map key sorted)
  sorted_ascends xs sorted once same up =
      strictly key sorted (sorted_far (is_before key) (ranks_by nat_list_cmp_total key) sorted up)
      (IsDistinct-IsPermutation bytes_eq flips (map key xs) (map key sorted) (IsPermutation-map key xs sorted same) (distinct (map key xs) once))

-- ---- references to answers

abbrev pub before : Bor Attained → Bor Attained → Bool
before one other = comes_before one.now other.now

pub sorted_now : (xs : List (Bor Attained)) → IsSortedBy before xs → IsSortedBy comes_before (map (λ (x : Bor Attained). x.now) xs)
sorted_now [] up k d low high = absurd (omega (arith, high))
sorted_now (x ∷ xs) up k d low high =
    let long : length (map (λ (y : Bor Attained). y.now) (x ∷ xs)) ≡ length (x ∷ xs) = length-map (x ∷ xs) (λ (y : Bor Attained). y.now) in
    let later = get_or-map (λ (y : Bor Attained). y.now) (x ∷ xs) (k + 1) x d (omega (arith, high, long)) in
    let here = get_or-map (λ (y : Bor Attained). y.now) (x ∷ xs) k x d (omega (arith, high, long)) in
    ap (λ (a : Attained). comes_before a (get_or (map (λ (y : Bor Attained). y.now) (x ∷ xs)) k d)) later
    ∙ ap (λ (a : Attained). comes_before (get_or (x ∷ xs) (k + 1) x).now a) here
    ∙ up k x low (omega (arith, high, long))

pub before_ranks : IsStrictWeakOrder before
before_ranks = ranks_by nat_list_cmp_total (λ (x : Bor Attained). x.now.vector)

-- ---- one list

first_or_later : {X : Type 0} (x : X) (xs : List X) (a : X) → Contains (x ∷ xs) a → (x ≡ a) ⊎ Contains xs a
first_or_later x xs a (zero, inside, is) = inl is
first_or_later x xs a (suc k, inside, is) = inr (k, omega (arith, inside), is)

later : {X : Type 0} (x : X) (xs : List X) (a : X) → Contains xs a → Contains (x ∷ xs) a
later x xs a (k, inside, is) = (suc k, omega (arith, inside), is)

first : {X : Type 0} (x : X) (xs : List X) → Contains (x ∷ xs) x
first x xs = (0, omega arith, refl)

never_both : (o p : Ordering) → o ≡ ordering_reverse p → o ≡ Less → p ≡ Less → ⊥
never_both Less Less e h k = absurd cc
never_both Less Equal e h k = absurd cc
never_both Less Greater e h k = absurd cc
never_both Equal p e h k = absurd cc
never_both Greater p e h k = absurd cc

not_both : (v w : List ℕ) → order v w ≡ Less → order w v ≡ Less → ⊥
not_both v w = never_both (order v w) (order w v) (nat_list_cmp_total.antisymm v w)

module _ {X : Type 0} (key : X → List ℕ) where
  below_all : (v : List ℕ) (xs : List X) (a : X) → AllByRecursion (λ w. order v w ≡ Less) (map key xs) → Contains xs a → order v (key a) ≡ Less
  below_all v [] a h (k, inside, is) = absurd (omega (arith, inside))
  below_all v (x ∷ xs) a h listed = elim (first_or_later x xs a listed) [
    | inl same ↦ subst (λ (b : X). order v (key b) ≡ Less) same h.0
    | inr rest ↦ below_all v xs a h.1 rest
  ]

  -- two lists in ascending order of their vectors that have the same elements are one
  pub one_list : (xs ys : List X) → AreAscending (map key xs) → AreAscending (map key ys) → ((a : X) → Contains xs a ↔ Contains ys a) → xs ≡ ys
  unfolding IsStrictlySortedBy
  one_list [] [] up_x up_y same = refl
  one_list [] (y ∷ ys) up_x up_y same = (let none = (same y).1 (first y ys) in absurd (omega (arith, none.1)))
  one_list (x ∷ xs) [] up_x up_y same = (let none = (same x).0 (first x xs) in absurd (omega (arith, none.1)))
  one_list (x ∷ xs) (y ∷ ys) up_x up_y same = ap (λ (a : X). a ∷ xs) head ∙ ap (λ (l : List X). y ∷ l) (one_list xs ys up_x.1 up_y.1 (λ a. (there a, back a)))
    where
      head : x ≡ y
      head = elim (first_or_later y ys x ((same x).0 (first x xs))) [
        | inl is ↦ sym is
        | inr in_y ↦ elim (first_or_later x xs y ((same y).1 (first y ys))) [
          | inl is ↦ is
          | inr in_x ↦ absurd (not_both (key x) (key y) (below_all (key x) xs y up_x.0 in_x) (below_all (key y) ys x up_y.0 in_y))
        ]
      ]

      there : (a : X) → Contains xs a → Contains ys a
      there a listed = elim (first_or_later y ys a ((same a).0 (later x xs a listed))) [
        | inl is ↦ absurd (let lower = below_all (key x) xs a up_x.0 listed in let equal = subst (λ (b : X). order (key x) (key b) ≡ Less) (sym (head ∙ is)) lower in not_both (key x) (key x) equal equal)
        | inr rest ↦ rest
      ]

      back : (a : X) → Contains ys a → Contains xs a
      back a listed = elim (first_or_later x xs a ((same a).1 (later y ys a listed))) [
        | inl is ↦ absurd (let lower = below_all (key y) ys a up_y.0 listed in let equal = subst (λ (b : X). order (key y) (key b) ≡ Less) (sym (sym head ∙ is)) lower in not_both (key y) (key y) equal equal)
        | inr rest ↦ rest
      ]

-- ---- lists of vectors

abbrev itself : List ℕ → List ℕ
itself v = v

-- the same of vectors themselves
pub vectors_ascend : (vs sorted : List (List ℕ)) → AllPairs (λ v w. v ≢ w) vs → IsPermutation vs sorted → IsSortedBy (λ v w. is_lt (order v w)) sorted → AreAscending sorted
vectors_ascend vs sorted once same up =
    subst AreAscending (map-id sorted) (sorted_ascends itself vs sorted (subst (AllPairs (λ v w. v ≢ w)) (sym (map-id vs)) once) same up)

pub one_vector_list : (vs ws : List (List ℕ)) → AreAscending vs → AreAscending ws → ((v : List ℕ) → Contains vs v ↔ Contains ws v) → vs ≡ ws
one_vector_list vs ws up_v up_w same = one_list itself vs ws (subst AreAscending (sym (map-id vs)) up_v) (subst AreAscending (sym (map-id ws)) up_w) same
