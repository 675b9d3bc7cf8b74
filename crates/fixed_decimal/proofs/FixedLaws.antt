-- What the answer to a text says of the decimal that it spells.
use Rattle.std.proofs.Common.{◌≡◌, ℕ, zero, suc, ◌≤◌, ◌++◌, ◌∙◌, sym, inl, inr, Bool, true, false, List, length, ℤ, unsigned_abs, refl, Result, Ok, Err, IfOk}
use Rattle.std.specs.Prelude.{nat_lt}
use Rattle.std.proofs.lemmas.Bool.{cases_lt, cases_Bool, or_left, or_right, or_from, lt-ltb, le-ltb}
use Rattle.fixed_decimal.specs.declared.DecimalFault.{DecimalFault}
use Rattle.fixed_decimal.specs.Decimals.{Decimal, Spells}
use Rattle.fixed_decimal.specs.Rounding.{power, IsRounded, number, signed, size, value}
use Rattle.fixed_decimal.specs.Reading.{decimal_of, is_decimal}
use Rattle.fixed_decimal.specs.Answers.{is_out_of_range, rounded, fixed, IsAnswer}
use Rattle.fixed_decimal.proofs.Nearest.{scaled_rounded}
use Rattle.fixed_decimal.proofs.Spelling.{sound, complete}
use Rattle.fixed_decimal.specs.declared.limits.TheConstants.{MAX_BYTES, MAX_EXPONENT, MAX_VALUE}

-- the answer is that of the decimal which the text spells
pub fixed_spelled : (text : List ℕ) (places : ℕ) (d : Decimal) → length text ≤ MAX_BYTES → Spells text d → fixed text places ≡ rounded d places
unfolding fixed
fixed_spelled text places d short s =
    let c = complete text d s in
    rw (le-ltb MAX_BYTES (length text) short, c.0, c.1) refl

answer_spelled : (text : List ℕ) (places : ℕ) (d : Decimal) → length text ≤ MAX_BYTES → Spells text d → IsAnswer text places (rounded d places)
unfolding rounded is_out_of_range
answer_spelled text places d short s =
    let e = number d.exponent in
    let n = size d places in
    elim (cases_lt MAX_EXPONENT e) [
      | inl large ↦ rw (or_left (nat_lt MAX_EXPONENT e) (nat_lt MAX_VALUE n) (lt-ltb MAX_EXPONENT e large)) (short, (d, s, inl large))
      | inr small ↦ elim (cases_lt MAX_VALUE n) [
        | inl large ↦ rw (or_right (nat_lt MAX_EXPONENT e) (nat_lt MAX_VALUE n) (lt-ltb MAX_VALUE n large)) (short, (d, s, inr large))
        | inr within ↦
            let neither = or_from (nat_lt MAX_EXPONENT e) (nat_lt MAX_VALUE n) (le-ltb MAX_EXPONENT e small) (le-ltb MAX_VALUE n within) in
            rw neither (short, (d, s, small, within, refl))
      ]
    ]

pub fixed_answer : (text : List ℕ) (places : ℕ) → IsAnswer text places (fixed text places)
fixed_answer text places =
    elim (cases_lt MAX_BYTES (length text)) [
      | inl long ↦ unfold fixed in rw (lt-ltb MAX_BYTES (length text) long) long
      | inr short ↦ elim (cases_Bool (is_decimal text)) [
        | inl decimal ↦
            let s = sound text decimal in
            rw (fixed_spelled text places (decimal_of text) short s) (answer_spelled text places (decimal_of text) short s)
        | inr none ↦
            unfold fixed in rw (le-ltb MAX_BYTES (length text) short, none) (short, (λ d s. let c = (complete text d s).0 in cc))
      ]
    ]

signed_size : (negative : Bool) (n : ℕ) → unsigned_abs (signed negative n) ≡ n
signed_size true zero = refl
signed_size true (suc n) = refl
signed_size false n = refl

-- no answer is above the limit
answer_range : (text : List ℕ) (places : ℕ) (r : Result ℤ DecimalFault) → IsAnswer text places r → IfOk r (λ n. unsigned_abs n ≤ MAX_VALUE)
unfolding value
answer_range text places (Ok n) a = let d = a.1.0 in rw (a.1.4, signed_size d.negative (size d places)) a.1.3
answer_range text places (Err e) a = tt

pub fixed_range : (text : List ℕ) (places : ℕ) → IfOk (fixed text places) (λ n. unsigned_abs n ≤ MAX_VALUE)
fixed_range text places = answer_range text places (fixed text places) (fixed_answer text places)

-- the answer to a decimal is the nearest whole number
answer_nearest : (text : List ℕ) (places : ℕ) (r : Result ℤ DecimalFault) → IsAnswer text places r
    → IfOk r (λ n. (d : Decimal) → Spells text d → IsRounded (number (d.whole_part ++ d.fraction)) (power d places) (unsigned_abs n))
unfolding value size
answer_nearest text places (Ok n) a = λ d s.
    let e : n ≡ value a.1.0 places = a.1.4 in
    let same : a.1.0 ≡ d = sym (complete text a.1.0 a.1.1).1 ∙ (complete text d s).1 in
    rw (e, same, signed_size d.negative (size d places)) (scaled_rounded (number (d.whole_part ++ d.fraction)) (power d places))
answer_nearest text places (Err e) a = tt

pub fixed_nearest : (text : List ℕ) (places : ℕ)
    → IfOk (fixed text places) (λ n. (d : Decimal) → Spells text d → IsRounded (number (d.whole_part ++ d.fraction)) (power d places) (unsigned_abs n))
fixed_nearest text places = answer_nearest text places (fixed text places) (fixed_answer text places)
