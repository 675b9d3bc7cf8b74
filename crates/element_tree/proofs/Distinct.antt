-- Names that are sorted: two that are the same stand side by side.
use Rattle.std.proofs.Common.{◌≡◌, ℕ, ◌+◌, ◌<◌, Bool, true, false, not, cond, ◌&&◌, List, [], ◌∷◌, length, map, get_or, suc, subst, Option, Some, is_some, refl, sym, ◌∙◌, arith}
use Rattle.std.specs.Borrow.{Bor}
use Rattle.std.specs.List.{AllByRecursion, AllAdjacentBelow, IsAllAdjacentAnswer, IsDistinct}
use Rattle.std.specs.List.Sorted.{IsPermutation, IsSorted, IsStrictlySortedBy}
use Rattle.std.specs.Str.{bytes_eq}
use Rattle.std.specs.Ordering.{is_eq, is_lt, nat_cmp, ordering_reverse}
use Rattle.std.specs.Cmp.{IsTotalOrder}
use Rattle.std.specs.Cmp.Lexicographic.{slice_cmp, on_texts}
use Rattle.std.specs.declared.cmp.Ordering.{Ordering}
use Rattle.std.specs.declared.cmp.Ordering.TheVariants.{Less, Equal, Greater}
use Rattle.std.proofs.lemmas.List.Sorted.{IsPermutation-sym}
use Rattle.std.proofs.lemmas.Map.Keys.{IsDistinct-IsPermutation, IsDistinct-from_sorted, apart_from_distinct}
use Rattle.std.proofs.lemmas.Map.Text.{is_eq-slice_cmp}
use Rattle.element_tree.specs.Tags.{value_of, are_distinct}

abbrev Key : Type 0
Key = Bor (List ℕ)

abbrev Attribute : Type 0
Attribute = List ℕ × List ℕ

abbrev by_name : Key → Key → Ordering
by_name x y = slice_cmp nat_cmp x.now y.now

abbrev same : Key → Key → Bool
same x y = is_eq (by_name x y)

total : IsTotalOrder by_name
total = on_texts (λ k. k.now)

-- ---- names that rise differ

abbrev Rises : List Key → Type 0
Rises keys = AllAdjacentBelow (λ x y. is_lt (by_name x y) ≡ true) keys (length keys)

rises-tail : (x : Key) (keys : List Key) → Rises (x ∷ keys) → Rises keys
rises-tail x keys up = λ k d inside.
    subst (λ n. is_lt (by_name (get_or keys k d) (get_or (x ∷ keys) n d)) ≡ true) (next k) (up (suc k) d (omega (arith, inside)))
  where
    next : (k : ℕ) → suc k + 1 ≡ suc (k + 1)
    next k = omega arith

less : (o : Ordering) → is_lt o ≡ true → o ≡ Less
less Less e = refl
less Equal e = absurd (cc)
less Greater e = absurd (cc)

all_after : (x y : Key) (keys : List Key) → by_name x y ≡ Less → AllByRecursion (λ z. by_name y z ≡ Less) keys → AllByRecursion (λ z. by_name x z ≡ Less) keys
all_after x y [] e h = tt
all_after x y (z ∷ keys) e h = (total.trans x y z e h.0, all_after x y keys e h.1)

strict : (keys : List Key) → Rises keys → IsStrictlySortedBy by_name keys
unfolding IsStrictlySortedBy
strict [] up = tt
strict (x ∷ []) up = (tt, tt)
strict (x ∷ y ∷ keys) up =
    let rest = strict (y ∷ keys) (rises-tail x (y ∷ keys) up) in
    let first : by_name x y ≡ Less = less _ (up 0 x (omega arith)) in
    ((first, all_after x y keys first rest.0), rest)

-- ---- the test of the attributes is that of their names

flips-is : (o p : Ordering) → o ≡ ordering_reverse p → is_eq o ≡ is_eq p
flips-is o Less e = rw e refl
flips-is o Equal e = rw e refl
flips-is o Greater e = rw e refl

flips : (x y : Key) → same x y ≡ same y x
flips x y = flips-is _ _ (total.antisymm x y)

abbrev Both : Type 0 → Type 0 → Type 0
Both P Q = (P → Q) × (Q → P)

one_more : (b s : Bool) (x : List ℕ) (found : Option (List ℕ)) (P : Type 0) → s ≡ b → Both (not (is_some found) ≡ true) P
    → Both (not (is_some (cond b (Some x) found)) ≡ true) ((s ≡ false) × P)
one_more true s x found P e both = ((λ h. absurd (cc)), (λ h. absurd (cc (h.0))))
one_more false s x found P e both = ((λ h. (e, both.0 h)), (λ h. both.1 h.1))

none_again : (name : List ℕ) (k : Key) (keys : List Key) (attributes : List Attribute) → k.now ≡ name → map (λ y. y.now) keys ≡ map (λ a. a.0) attributes
    → Both (not (is_some (value_of name attributes)) ≡ true) (AllByRecursion (λ y. same k y ≡ false) keys)
unfolding value_of
none_again name k [] [] is e = ((λ h. tt), (λ h. refl))
none_again name k [] (a ∷ attributes) is e = absurd (cc)
none_again name k (y ∷ keys) [] is e = absurd (cc)
none_again name k (y ∷ keys) (a ∷ attributes) is e =
    one_more (bytes_eq a.0 name) (same k y) a.1 (value_of name attributes) _ (told (flips k y) (is_eq-slice_cmp y.now k.now) (cc)) (none_again name k keys attributes is (cc))
  where
    told : {p q r s : Bool} → p ≡ q → q ≡ r → r ≡ s → p ≡ s
    told e f g = e ∙ f ∙ g

and_both : (p q : Bool) (P Q : Type 0) → Both (p ≡ true) P → Both (q ≡ true) Q → Both (p && q ≡ true) (P × Q)
and_both true q P Q both more = ((λ h. (both.0 refl, more.0 h)), (λ h. more.1 h.1))
and_both false q P Q both more = ((λ h. absurd (cc)), (λ h. absurd (cc (both.1 h.0))))

names_differ : (keys : List Key) (attributes : List Attribute) → map (λ y. y.now) keys ≡ map (λ a. a.0) attributes
    → Both (are_distinct attributes ≡ true) (IsDistinct same keys)
unfolding are_distinct IsDistinct
names_differ [] [] e = ((λ h. tt), (λ h. refl))
names_differ [] (a ∷ attributes) e = absurd (cc)
names_differ (k ∷ keys) [] e = absurd (cc)
names_differ (k ∷ keys) (a ∷ attributes) e =
    and_both (not (is_some (value_of a.0 attributes))) (are_distinct attributes) _ _ (none_again a.0 k keys attributes (cc) (cc)) (names_differ keys attributes (cc))

-- ---- neighbours that don't rise are the same

are_equal : (o p : Ordering) → o ≡ ordering_reverse p → is_lt o ≡ false → is_lt p ≡ false → is_eq o ≡ true
are_equal o Less e f g = absurd (cc)
are_equal o Equal e f g = rw e refl
are_equal o Greater e f g = let turned : true ≡ false = rw e at f in absurd (cc)

abbrev Falls : List Key → Type 0
Falls keys = (k : ℕ) × (k + 1 < length keys) × ((d : Key) → is_lt (by_name (get_or keys k d) (get_or keys (k + 1) d)) ≡ false)

stands_twice : (keys : List Key) → IsSorted by_name keys → Falls keys → IsDistinct same keys → ⊥
stands_twice [] up (k, inside, at) differ = omega (arith, inside)
stands_twice (d ∷ keys) up (k, inside, at) differ =
    let x = get_or (d ∷ keys) k d in
    let y = get_or (d ∷ keys) (k + 1) d in
    let twice : same x y ≡ true = are_equal (by_name x y) (by_name y x) (total.antisymm x y) (at d) (up k d (omega arith) inside) in
    let apart : same x y ≡ false = apart_from_distinct same (d ∷ keys) k (k + 1) d differ (omega arith) inside in
    absurd (cc)

not_true : (b : Bool) → (b ≡ true → ⊥) → false ≡ b
not_true true h = absurd (h refl)
not_true false h = refl

pub told_by_neighbours : (attributes : List Attribute) (keys sorted seen : List Key) (b : Bool) → map (λ y. y.now) keys ≡ map (λ a. a.0) attributes
    → IsPermutation keys sorted → IsSorted by_name sorted → seen ≡ sorted → IsAllAdjacentAnswer (λ x y r. r ≡ is_lt (by_name x y)) seen b → b ≡ are_distinct attributes
told_by_neighbours attributes keys sorted seen true e moved up is answer =
    let rising : Rises seen = λ k d inside. sym (answer k d inside) in
    sym ((names_differ keys attributes e).1 (IsDistinct-IsPermutation same flips sorted keys (IsPermutation-sym keys sorted moved) (IsDistinct-from_sorted by_name sorted (strict sorted (subst Rises is rising)))))
told_by_neighbours attributes keys sorted seen false e moved up is answer =
    not_true (are_distinct attributes) (λ h. stands_twice sorted up (subst Falls is (answer.0, answer.1, λ d. sym (answer.2 d))) (IsDistinct-IsPermutation same flips keys sorted moved ((names_differ keys attributes e).0 h)))
