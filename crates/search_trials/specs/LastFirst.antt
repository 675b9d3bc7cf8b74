-- An order of vectors that compares the last number first, then the one before it, and so on.
use Rattle.std.specs.Prelude.{◌≡◌, ℕ, ◌+◌, ◌<◌, Bool, true, false, not, ◌&&◌, ◌||◌, nat_lt, List}
use Rattle.std.specs.Prelude.{[], ◌∷◌, length, drop, slice_index, IsTrue, refl}
use Rattle.std.specs.Str.{bytes_eq}
use Rattle.std.specs.Cmp.{both_ways as same_test}
use Rattle.std.proofs.Common.{◌⊎◌, ◌↔◌, inl, inr, ap, sym, subst, ◌∙◌, arith}
use Rattle.std.proofs.lemmas.Bool.{cases_order, and_parts, and_from, or_cases, or_left, or_right}
use Rattle.std.proofs.lemmas.Bool.{not-true, not_from_false, false_from_ne_true, both_ways}
use Rattle.std.proofs.lemmas.Bool.{ltb-true, lt-ltb}
use Rattle.std.proofs.lemmas.Slice.Eq.{bytes_eq-Decides}
use Rattle.rulebook_order.specs.Sums.{sums}
use Rattle.rulebook_order.specs.VectorOrder.{IsVectorOrder}

-- x comes before y: at the last place at which they differ it has the smaller number
abbrev pub is_before : List ℕ → List ℕ → Bool
is_before [] ys = false
is_before (x ∷ xs) [] = false
is_before (x ∷ xs) (y ∷ ys) = is_before xs ys || (bytes_eq xs ys && nat_lt x y)

-- x is no worse than y where y does not come before it
abbrev pub no_later : List ℕ → List ℕ → Bool
no_later x y = not (is_before y x)

abbrev IsBefore : List ℕ → List ℕ → Type 0
IsBefore [] ys = ⊥
IsBefore (x ∷ xs) [] = ⊥
IsBefore (x ∷ xs) (y ∷ ys) = IsBefore xs ys ⊎ ((xs ≡ ys) × (x < y))

is_before-words : (xs ys : List ℕ) → IsTrue (is_before xs ys) ↔ IsBefore xs ys
is_before-words [] ys = (λ h. absurd cc, λ h. absurd h)
is_before-words (x ∷ xs) [] = (λ h. absurd cc, λ h. absurd h)
is_before-words (x ∷ xs) (y ∷ ys) = (
  λ h. elim (or_cases (is_before xs ys) (bytes_eq xs ys && nat_lt x y) h) [
    | inl later ↦ inl ((is_before-words xs ys).0 later)
    | inr here ↦ (let parts = and_parts (bytes_eq xs ys) (nat_lt x y) here in inr
        ((bytes_eq-Decides xs ys).0 parts.0, ltb-true x y parts.1))
  ],
  λ h. elim h [
    | inl later ↦ or_left (is_before xs ys) (bytes_eq xs ys && nat_lt x y)
        ((is_before-words xs ys).1 later)
    | inr here ↦ or_right (is_before xs ys) (bytes_eq xs ys && nat_lt x y)
        (and_from (bytes_eq xs ys) (nat_lt x y) ((bytes_eq-Decides xs ys).1 here.0)
        (lt-ltb x y here.1))
  ],
)

-- no vector comes before itself
apart : (xs : List ℕ) → ¬ IsBefore xs xs
apart [] h = h
apart (x ∷ xs) (inl later) = apart xs later
apart (x ∷ xs) (inr here) = absurd (omega (arith, here.1))

onward : (xs ys zs : List ℕ) → IsBefore xs ys → IsBefore ys zs → IsBefore xs zs
onward [] ys zs a b = absurd a
onward (x ∷ xs) [] zs a b = absurd a
onward (x ∷ xs) (y ∷ ys) [] a b = absurd b
onward (x ∷ xs) (y ∷ ys) (z ∷ zs) (inl a) (inl b) = inl (onward xs ys zs a b)
onward (x ∷ xs) (y ∷ ys) (z ∷ zs) (inl a) (inr b) = inl (subst (IsBefore xs) b.0 a)
onward (x ∷ xs) (y ∷ ys) (z ∷ zs) (inr a) (inl b) = inl (subst (λ us. IsBefore us zs) (sym a.0) b)
onward (x ∷ xs) (y ∷ ys) (z ∷ zs) (inr a) (inr b) = inr (a.0 ∙ b.0, omega (arith, a.1, b.1))

-- of two vectors of one width one comes before the other, or they are equal
three_ways : (xs ys : List ℕ) → length xs ≡ length ys
    → (xs ≡ ys) ⊎ (IsBefore xs ys ⊎ IsBefore ys xs)
three_ways [] [] e = inl refl
three_ways [] (y ∷ ys) e = absurd (omega arith)
three_ways (x ∷ xs) [] e = absurd (omega arith)
three_ways (x ∷ xs) (y ∷ ys) e = elim (three_ways xs ys (omega arith)) [
  | inr (inl a) ↦ inr (inl (inl a))
  | inr (inr b) ↦ inr (inr (inl b))
  | inl same ↦ elim (cases_order x y) [
    | inl eq ↦ inl (ap (λ n. n ∷ xs) eq ∙ ap (λ ns. y ∷ ns) same)
    | inr (inl lt) ↦ inr (inl (inr (same, lt)))
    | inr (inr gt) ↦ inr (inr (inr (sym same, gt)))
  ]
]

-- the same numbers added on both sides leave equal lists equal, and different ones different
sums-cancel : (xs ys zs : List ℕ) → length xs ≡ length zs → length ys ≡ length zs
    → sums xs zs ≡ sums ys zs → xs ≡ ys
sums-cancel [] [] zs e f h = refl
sums-cancel [] (y ∷ ys) zs e f h = absurd (omega arith)
sums-cancel (x ∷ xs) [] zs e f h = absurd (omega arith)
sums-cancel (x ∷ xs) (y ∷ ys) [] e f h = absurd (omega arith)
sums-cancel (x ∷ xs) (y ∷ ys) (z ∷ zs) e f h =
    let heads : x + z ≡ y + z = ap (λ (us : List ℕ). slice_index us 0) h in
    let same : x ≡ y = omega (arith, heads) in
    let rest : xs ≡ ys = sums-cancel xs ys zs (omega arith) (omega arith)
    (ap (λ (us : List ℕ). drop 1 us) h) in
    ap (λ n. n ∷ xs) same ∙ ap (λ ns. y ∷ ns) rest

added : (xs ys zs : List ℕ) → length xs ≡ length zs → length ys ≡ length zs
    → IsBefore (sums xs zs) (sums ys zs) ↔ IsBefore xs ys
added [] ys zs e f = (λ h. h, λ h. h)
added (x ∷ xs) [] [] e f = absurd (omega arith)
added (x ∷ xs) [] (z ∷ zs) e f = absurd (omega arith)
added (x ∷ xs) (y ∷ ys) [] e f = absurd (omega arith)
added (x ∷ xs) (y ∷ ys) (z ∷ zs) e f =
    let rest = added xs ys zs (omega arith) (omega arith) in (
      λ h. elim h [
        | inl later ↦ inl (rest.0 later)
        | inr here ↦ inr (
          sums-cancel xs ys zs (omega arith) (omega arith) here.0,
          omega (arith, here.1),
        )
      ],
      λ h. elim h [
        | inl later ↦ inl (rest.1 later)
        | inr here ↦ inr (ap (λ us. sums us zs) here.0, omega (arith, here.1))
      ],
    )

-- not before, from the test, and back
not_before : (x y : List ℕ) → IsTrue (no_later x y) → ¬ IsBefore y x
not_before x y h b =
    both_ways (is_before y x) (not-true (is_before y x) h) ((is_before-words y x).1 b)

no_later_from : (x y : List ℕ) → ¬ IsBefore y x → IsTrue (no_later x y)
no_later_from x y h =
    not_from_false (is_before y x) (false_from_ne_true (is_before y x)
    (λ b. h ((is_before-words y x).0 b)))

pub no_later-laws : (width : ℕ) → IsVectorOrder width no_later
no_later-laws width = record {
  reflexive = λ x lx. no_later_from x x (apart x);
  transitive =
      λ x y z lx ly lz xy yz. no_later_from x z (λ zx. elim (three_ways x y (lx ∙ sym ly)) [
        | inl same ↦ not_before y z yz (subst (IsBefore z) same zx)
        | inr (inl b) ↦ not_before y z yz (onward z x y zx b)
        | inr (inr b) ↦ not_before x y xy b
      ]);
  antisymmetric = λ x y lx ly xy yx. elim (three_ways x y (lx ∙ sym ly)) [
    | inl same ↦ same
    | inr (inl b) ↦ absurd (not_before y x yx b)
    | inr (inr b) ↦ absurd (not_before x y xy b)
  ];
  unchanged_by_adding = λ x y z lx ly lz. same_test _ _
      (λ h. no_later_from x y (λ b. not_before (sums x z) (sums y z) h
      ((added y x z (ly ∙ sym lz) (lx ∙ sym lz)).1 b)))
      (λ h. no_later_from (sums x z) (sums y z) (λ b. not_before x y h
      ((added y x z (ly ∙ sym lz) (lx ∙ sym lz)).0 b)));
}
