-- Words whose bits say which numbers pass a test.
use Rattle.std.proofs.Common.{◌≡◌, ℕ, ◌+◌, ◌*◌, ◌^◌, ◌%◌, ◌<◌, Bool, true, false, ◌&&◌, ◌||◌, eqb, ltb, refl, ap, sym, ◌∙◌, inl, inr, arith}
use Rattle.std.specs.Int.{bit_at, w32}
use Rattle.std.specs.Prelude.{bit_or, IsTrue}
use Rattle.std.proofs.lemmas.Bool.{cases_eq, cases_order, or_right, eq-eqb, ne_eqb, lt-ltb, le-ltb}
use Rattle.std.proofs.lemmas.Nat.Bits.{bit_at_set_same, bit_at_set_other}

or_false : (t : Bool) → (t || false) ≡ t
or_false true = refl
or_false false = refl

-- the bits of a word in which one bit is set too
pub with_bit-bits : (word bit : ℕ) → bit < 32 → (q : ℕ) → eqb (bit_at (bit_or word (1 * 2 ^ bit % 2 ^ 32)) q) 1 ≡ (eqb (bit_at word q) 1 || eqb q bit)
with_bit-bits word bit within q = elim (cases_eq q bit) [
  | inl e ↦ rw e (eq-eqb _ 1 (bit_at_set_same w32 word bit within) ∙ sym (or_right (eqb (bit_at word bit) 1) (eqb bit bit) (eq-eqb bit bit refl)))
  | inr ne ↦ rw (ne_eqb q bit ne) (ap (λ n. eqb n 1) (bit_at_set_other w32 word bit within q ne) ∙ sym (or_false (eqb (bit_at word q) 1)))
]

module _ (test : ℕ → Bool) (i : ℕ) where
  passing : IsTrue (test i) → (q : ℕ) → ((ltb q i && test q) || eqb q i) ≡ (ltb q (i + 1) && test q)
  passing passes q = elim (cases_order q i) [
    | inl e ↦ rw e (or_right (ltb i i && test i) (eqb i i) (eq-eqb i i refl) ∙ sym (rw (lt-ltb i (i + 1) (omega arith)) passes))
    | inr (inl below) ↦ rw (lt-ltb q i below, ne_eqb q i (λ e. omega (arith, e)), lt-ltb q (i + 1) (omega arith)) (or_false (test q))
    | inr (inr above) ↦ rw (le-ltb q i (omega arith), ne_eqb q i (λ e. omega (arith, e)), le-ltb q (i + 1) (omega arith)) refl
  ]

  failing : test i ≡ false → (q : ℕ) → (ltb q i && test q) ≡ (ltb q (i + 1) && test q)
  failing fails q = elim (cases_order q i) [
    | inl e ↦ rw (e, le-ltb i i (omega arith), lt-ltb i (i + 1) (omega arith)) (sym fails)
    | inr (inl below) ↦ rw (lt-ltb q i below, lt-ltb q (i + 1) (omega arith)) refl
    | inr (inr above) ↦ rw (le-ltb q i (omega arith), le-ltb q (i + 1) (omega arith)) refl
  ]

  module _ (word : ℕ) (so_far : (q : ℕ) → eqb (bit_at word q) 1 ≡ (ltb q i && test q)) where
    -- the word of the numbers up to one that passes
    pub bits_with : (next : ℕ) → ((q : ℕ) → eqb (bit_at next q) 1 ≡ (eqb (bit_at word q) 1 || eqb q i)) → IsTrue (test i) → (q : ℕ) → eqb (bit_at next q) 1 ≡ (ltb q (i + 1) && test q)
    bits_with next is passes q = is q ∙ ap (λ b. b || eqb q i) (so_far q) ∙ passing passes q

    -- the word of the numbers up to one that does not pass
    pub bits_without : test i ≡ false → (q : ℕ) → eqb (bit_at word q) 1 ≡ (ltb q (i + 1) && test q)
    bits_without fails q = so_far q ∙ failing fails q
