-- A text is a decimal exactly where it spells one, and it spells one alone.
use Rattle.std.proofs.Common.{◌≡◌, ◌≢◌, ℕ, ◌≤◌, inl, inr, Bool, true, false, not, List, [], ◌∷◌, ◌++◌, length, refl, ap, ◌∙◌, sym, arith, length-append, append_assoc}
use Rattle.std.specs.Prelude.{◌==◌}
use Rattle.std.specs.Char.{IsAsciiDigit}
use Rattle.std.proofs.lemmas.Bool.{ne_eqb, and_parts}
use Rattle.std.proofs.lemmas.List.Elements.{All-head}
use Rattle.fixed_decimal.specs.Decimals.{Decimal, Spells, IsDigits, IsFraction, IsSigned, IsExponent}
use Rattle.fixed_decimal.specs.Parts.{IsShort}
use Rattle.fixed_decimal.specs.Reading.{first_digits, after_digits, is_negative, unsigned, fraction, after_fraction, is_exponent, after_whole, exponent_part, decimal_of, lacks_digits, is_decimal}
use Rattle.fixed_decimal.proofs.Scanning.{digits_first, digits_split, sign_found, fraction_found, exponent_found, sign_spelled, digits_bare, point_bare, digits_spelled, after_spelled, exponent_starts, fraction_starts, fraction_spelled, exponent_spelled}
use Rattle.fixed_decimal.specs.declared.limits.TheConstants.{MAX_BYTES}

some_digit : (before after : List ℕ) → not (lacks_digits before after) ≡ true → before ++ after ≢ []
some_digit [] [] h e = cc
some_digit [] (b ∷ after) h e = cc
some_digit (b ∷ before) after h e = cc

no_lack : (before after : List ℕ) → before ++ after ≢ [] → not (lacks_digits before after) ≡ true
no_lack [] [] h = absurd (h refl)
no_lack [] (b ∷ after) h = let e : (length (b ∷ after) == 0) ≡ false = ne_eqb (length (b ∷ after)) 0 (omega arith) in rw e refl
no_lack (b ∷ before) after h = let e : (length (b ∷ before) == 0) ≡ false = ne_eqb (length (b ∷ before)) 0 (omega arith) in rw e refl

pub sound : (text : List ℕ) → is_decimal text ≡ true → Spells text (decimal_of text)
unfolding is_decimal decimal_of after_whole exponent_part
sound text h =
    let p = and_parts (not (lacks_digits (first_digits (unsigned text)) (fraction (after_digits (unsigned text))))) (is_exponent (after_fraction (after_digits (unsigned text)))) h in
    let f = fraction_found (after_digits (unsigned text)) in
    let e = exponent_found (after_fraction (after_digits (unsigned text))) p.1 in
    record {
      unsigned = unsigned text;
      point_part = f.0;
      exponent_part = after_fraction (after_digits (unsigned text));
      sign = sign_found text;
      parts = digits_split (unsigned text) ∙ ap (λ (xs : List ℕ). first_digits (unsigned text) ++ xs) f.1 ∙ sym (append_assoc (first_digits (unsigned text)) f.0 (after_fraction (after_digits (unsigned text))));
      point = f.2;
      exponent = e.0;
      whole_digits = digits_first (unsigned text);
      fraction_digits = f.3;
      exponent_digits = e.1;
      some_digit = some_digit (first_digits (unsigned text)) (fraction (after_digits (unsigned text))) p.0;
    }

bare : (whole fraction p x : List ℕ) → IsFraction fraction p → IsDigits whole → whole ++ fraction ≢ [] → (is_negative (whole ++ (p ++ x)) ≡ false) × (unsigned (whole ++ (p ++ x)) ≡ whole ++ (p ++ x))
bare [] fraction p x (inl e) h some = absurd (some e.1)
bare [] fraction p x (inr e) h some = rw e (point_bare (fraction ++ x))
bare (b ∷ whole) fraction p x point h some = digits_bare b (whole ++ (p ++ x)) (All-head IsAsciiDigit b whole h)

pub complete : (text : List ℕ) (d : Decimal) → Spells text d → (is_decimal text ≡ true) × (decimal_of text ≡ d)
unfolding is_decimal decimal_of after_whole exponent_part
complete text d s =
    let parts = s.parts ∙ append_assoc d.whole_part s.point_part s.exponent_part in
    let starts = exponent_starts d.exponent_negative d.exponent s.exponent_part s.exponent in
    let sign = sign_spelled d.negative s.unsigned text s.sign (rw parts (bare d.whole_part d.fraction s.point_part s.exponent_part s.point s.whole_digits s.some_digit)) in
    let no_digit = fraction_starts d.fraction s.point_part s.exponent_part s.point starts.0 in
    let front : first_digits (unsigned text) ≡ d.whole_part = rw (sign.1, parts) (digits_spelled d.whole_part (s.point_part ++ s.exponent_part) s.whole_digits no_digit) in
    let behind : after_digits (unsigned text) ≡ s.point_part ++ s.exponent_part = rw (sign.1, parts) (after_spelled d.whole_part (s.point_part ++ s.exponent_part) s.whole_digits no_digit) in
    let f = fraction_spelled d.fraction s.point_part s.exponent_part s.point s.fraction_digits starts in
    let e = exponent_spelled d.exponent_negative d.exponent s.exponent_part s.exponent s.exponent_digits in
    (rw (front, behind, f.0, f.1, e.0, no_lack d.whole_part d.fraction s.some_digit) refl, rw (sign.0, front, behind, f.0, f.1, e.1, e.2) refl)

-- the parts of a text are no longer than the text
sign_longer : (negative : Bool) (rest text : List ℕ) → IsSigned negative rest text → length rest ≤ length text
sign_longer true rest text e = rw e (omega arith)
sign_longer false rest text (inl e) = rw e (omega arith)
sign_longer false rest text (inr e) = rw e (omega arith)

fraction_longer : (digits text : List ℕ) → IsFraction digits text → length digits ≤ length text
fraction_longer digits text (inl e) = rw (e.0, e.1) (omega arith)
fraction_longer digits text (inr e) = rw e (omega arith)

exponent_longer : (negative : Bool) (digits text : List ℕ) → IsExponent negative digits text → length digits ≤ length text
exponent_longer negative digits text (inl e) = rw (e.0, e.1) (omega arith)
exponent_longer negative digits text (inr w) =
    let s = sign_longer negative digits w.signed w.sign in
    elim w.letter [ inl small ↦ rw small (omega (arith, s)) | inr capital ↦ rw capital (omega (arith, s)) ]

pub short : (text : List ℕ) → is_decimal text ≡ true → length text ≤ MAX_BYTES → IsShort (decimal_of text)
short text h limit =
    let s = sound text h in
    let d = decimal_of text in
    let all = sign_longer d.negative s.unsigned text s.sign in
    let sum = ap length (s.parts ∙ append_assoc d.whole_part s.point_part s.exponent_part) ∙ length-append d.whole_part (s.point_part ++ s.exponent_part) in
    let rest = length-append s.point_part s.exponent_part in
    let f = fraction_longer d.fraction s.point_part s.point in
    let e = exponent_longer d.exponent_negative d.exponent s.exponent_part s.exponent in
    record {
      whole_part = s.whole_digits;
      fraction = s.fraction_digits;
      exponent = s.exponent_digits;
      digits = omega (arith, all, sum, rest, f);
      exponent_size = omega (arith, all, sum, rest, e);
    }
