-- Signs, digits and exponents at the front of a text.
use Rattle.std.proofs.Common.{◌≡◌, ◌≢◌, ℕ, ◌⊎◌, inl, inr, Bool, true, false, ◌||◌, List, [], ◌∷◌, ◌++◌, length, take, drop, refl, ap, ◌∙◌, sym, arith}
use Rattle.std.specs.List.{take_while, list_all}
use Rattle.std.specs.Char.{is_ascii_digit, IsAsciiDigit}
use Rattle.std.proofs.lemmas.List.{take-append-drop}
use Rattle.std.proofs.Math.Seq.{drop-append_seam}
use Rattle.std.specs.Prelude.{◌==◌}
use Rattle.std.proofs.lemmas.List.Elements.{All-nil, All-cons, All-head, All-tail}
use Rattle.std.proofs.lemmas.List.Folds.{length-prefix_len}
use Rattle.std.proofs.lemmas.List.Sums.{take_while-cons}
use Rattle.std.proofs.lemmas.Bool.{cases_eq, cases_Bool, ne_eqb, and_parts}
use Rattle.std.proofs.lemmas.Bool.Decides.{nat_tests}
use Rattle.fixed_decimal.specs.Decimals.{IsDigits, IsSigned, IsFraction, IsExponent}
use Rattle.fixed_decimal.specs.Reading.{first_digits, after_digits, is_negative, unsigned, fraction, after_fraction, is_number, is_exponent, exponent_negative, exponent}

pub counted : (p : ℕ → Bool) (xs : List ℕ) → take (length (take_while p xs)) xs ≡ take_while p xs
counted p xs = ap (λ (n : ℕ). take n xs) (length-prefix_len p xs)

digit_fact : (b : ℕ) → is_ascii_digit b ≡ true → IsAsciiDigit b
digit_fact b h = grind (arith, nat_tests)

digit_test : (b : ℕ) → IsAsciiDigit b → is_ascii_digit b ≡ true
digit_test b h = grind (arith, nat_tests)

-- what the reading finds is what the grammar says
pub digits_first : (xs : List ℕ) → IsDigits (first_digits xs)
unfolding first_digits
digits_first [] = All-nil IsAsciiDigit
digits_first (b ∷ xs) =
    rw (take_while-cons is_ascii_digit b xs) (
    elim (cases_Bool (is_ascii_digit b)) [
      | inl yes_digit ↦ rw yes_digit (All-cons IsAsciiDigit b (take_while is_ascii_digit xs) (digit_fact b yes_digit) (digits_first xs))
      | inr no_digit ↦ rw no_digit (All-nil IsAsciiDigit)
    ])

pub digits_split : (xs : List ℕ) → xs ≡ first_digits xs ++ after_digits xs
unfolding first_digits after_digits
digits_split xs =
    let n = length (take_while is_ascii_digit xs) in
    sym (take-append-drop n xs) ∙ ap (λ (front : List ℕ). front ++ drop n xs) (counted is_ascii_digit xs)

pub digits_all : (xs : List ℕ) → list_all is_ascii_digit xs ≡ true → IsDigits xs
digits_all [] h = All-nil IsAsciiDigit
digits_all (b ∷ xs) h =
    let p = and_parts (is_ascii_digit b) (list_all is_ascii_digit xs) h in
    All-cons IsAsciiDigit b xs (digit_fact b p.0) (digits_all xs p.1)

pub sign_found : (text : List ℕ) → IsSigned (is_negative text) (unsigned text) text
unfolding is_negative unsigned
sign_found [] = inl refl
sign_found (b ∷ rest) =
    elim (cases_eq b 45) [
      | inl minus ↦ rw minus refl
      | inr other ↦ rw (ne_eqb b 45 other) (
          elim (cases_eq b 43) [
            | inl plus ↦ rw plus (inr refl)
            | inr bare ↦ rw (ne_eqb b 43 bare) (inl refl)
          ])
    ]

pub fraction_found : (text : List ℕ) → (p : List ℕ) × (text ≡ p ++ after_fraction text) × IsFraction (fraction text) p × IsDigits (fraction text)
unfolding fraction after_fraction
fraction_found [] = ([], refl, inl (refl, refl), All-nil IsAsciiDigit)
fraction_found (b ∷ rest) =
    elim (cases_eq b 46) [
      | inl point ↦ rw point (46 ∷ first_digits rest, ap (λ (xs : List ℕ). 46 ∷ xs) (digits_split rest), inr refl, digits_first rest)
      | inr other ↦ rw (ne_eqb b 46 other) ([], refl, inl (refl, refl), All-nil IsAsciiDigit)
    ]

some_letter : (b : ℕ) (rest : List ℕ) → ((b == 101) || (b == 69)) ≡ true → (b ∷ rest ≡ 101 ∷ rest) ⊎ (b ∷ rest ≡ 69 ∷ rest)
some_letter b rest h =
    elim (cases_eq b 101) [
      | inl small ↦ inl (ap (λ (x : ℕ). x ∷ rest) small)
      | inr other ↦ elim (cases_eq b 69) [
        | inl capital ↦ inr (ap (λ (x : ℕ). x ∷ rest) capital)
        | inr none ↦ absurd (let e = rw (ne_eqb b 101 other, ne_eqb b 69 none) at h in cc)
      ]
    ]

number_parts : (ds : List ℕ) → is_number ds ≡ true → (ds ≢ []) × IsDigits ds
unfolding is_number
number_parts [] h = cc
number_parts (b ∷ ds) h =
    let some : (length (b ∷ ds) == 0) ≡ false = ne_eqb (length (b ∷ ds)) 0 (omega arith) in
    ((λ e. cc), digits_all (b ∷ ds) (rw some at h))

pub exponent_found : (text : List ℕ) → is_exponent text ≡ true → IsExponent (exponent_negative text) (exponent text) text × IsDigits (exponent text)
unfolding is_exponent exponent_negative exponent
exponent_found [] h = (inl (refl, refl, refl), All-nil IsAsciiDigit)
exponent_found (b ∷ rest) h =
    let p = and_parts ((b == 101) || (b == 69)) (is_number (unsigned rest)) h in
    let n = number_parts (unsigned rest) p.1 in
    (inr (record { signed = rest; letter = some_letter b rest p.0; sign = sign_found rest; some_digit = n.0 }), n.1)

-- what the grammar says is what the reading finds
pub sign_spelled : (negative : Bool) (rest text : List ℕ) → IsSigned negative rest text → (is_negative rest ≡ false) × (unsigned rest ≡ rest)
    → (is_negative text ≡ negative) × (unsigned text ≡ rest)
unfolding is_negative unsigned
sign_spelled true rest text e bare = rw e (refl, refl)
sign_spelled false rest text (inl e) bare = rw e bare
sign_spelled false rest text (inr e) bare = rw e (refl, refl)

pub digits_bare : (b : ℕ) (rest : List ℕ) → IsAsciiDigit b → (is_negative (b ∷ rest) ≡ false) × (unsigned (b ∷ rest) ≡ b ∷ rest)
unfolding is_negative unsigned
digits_bare b rest h =
    let minus : (b == 45) ≡ false = ne_eqb b 45 (λ e. omega (arith, h)) in
    let plus : (b == 43) ≡ false = ne_eqb b 43 (λ e. omega (arith, h)) in
    (minus, rw (plus, minus) refl)

pub point_bare : (rest : List ℕ) → (is_negative (46 ∷ rest) ≡ false) × (unsigned (46 ∷ rest) ≡ 46 ∷ rest)
unfolding is_negative unsigned
point_bare rest = (refl, refl)

pub digits_spelled : (ds rest : List ℕ) → IsDigits ds → first_digits rest ≡ [] → first_digits (ds ++ rest) ≡ ds
unfolding first_digits
digits_spelled [] rest h e = e
digits_spelled (d ∷ ds) rest h e =
    let more = take_while-cons is_ascii_digit d (ds ++ rest) in
    let test = digit_test d (All-head IsAsciiDigit d ds h) in
    more ∙ rw test (ap (λ (xs : List ℕ). d ∷ xs) (digits_spelled ds rest (All-tail IsAsciiDigit d ds h) e))

pub after_spelled : (ds rest : List ℕ) → IsDigits ds → first_digits rest ≡ [] → after_digits (ds ++ rest) ≡ rest
unfolding after_digits
after_spelled ds rest h e =
    let e' : take_while is_ascii_digit (ds ++ rest) ≡ ds = unfold first_digits in digits_spelled ds rest h e in
    rw e' (drop-append_seam ds rest)

pub exponent_starts : (negative : Bool) (digits text : List ℕ) → IsExponent negative digits text → (first_digits text ≡ []) × (fraction text ≡ []) × (after_fraction text ≡ text)
unfolding first_digits fraction after_fraction
exponent_starts negative digits text (inl e) = rw e.0 (refl, refl, refl)
exponent_starts negative digits text (inr w) = elim w.letter [ inl small ↦ rw small (refl, refl, refl) | inr capital ↦ rw capital (refl, refl, refl) ]

pub fraction_starts : (digits p x : List ℕ) → IsFraction digits p → first_digits x ≡ [] → first_digits (p ++ x) ≡ []
unfolding first_digits
fraction_starts digits p x (inl e) h = rw e.0 h
fraction_starts digits p x (inr e) h = rw e refl

pub fraction_spelled : (digits p x : List ℕ) → IsFraction digits p → IsDigits digits → (first_digits x ≡ []) × (fraction x ≡ []) × (after_fraction x ≡ x)
    → (fraction (p ++ x) ≡ digits) × (after_fraction (p ++ x) ≡ x)
fraction_spelled digits p x (inl e) h s = rw (e.0, e.1) (s.1, s.2)
fraction_spelled digits p x (inr e) h s =
    unfold fraction after_fraction in rw e (digits_spelled digits x h s.0, after_spelled digits x h s.0)

all_digits_test : (ds : List ℕ) → IsDigits ds → list_all is_ascii_digit ds ≡ true
all_digits_test [] h = refl
all_digits_test (d ∷ ds) h = rw (digit_test d (All-head IsAsciiDigit d ds h)) (all_digits_test ds (All-tail IsAsciiDigit d ds h))

number_test : (ds : List ℕ) → ds ≢ [] → IsDigits ds → is_number ds ≡ true
unfolding is_number
number_test [] some h = absurd (some refl)
number_test (d ∷ ds) some h =
    let more : (length (d ∷ ds) == 0) ≡ false = ne_eqb (length (d ∷ ds)) 0 (omega arith) in
    rw more (all_digits_test (d ∷ ds) h)

bare_digits : (ds : List ℕ) → ds ≢ [] → IsDigits ds → (is_negative ds ≡ false) × (unsigned ds ≡ ds)
bare_digits [] some h = absurd (some refl)
bare_digits (d ∷ ds) some h = digits_bare d ds (All-head IsAsciiDigit d ds h)

written : (b : ℕ) (negative : Bool) (digits rest : List ℕ) → ((b == 101) || (b == 69)) ≡ true → IsSigned negative digits rest → digits ≢ [] → IsDigits digits
    → (is_exponent (b ∷ rest) ≡ true) × (exponent_negative (b ∷ rest) ≡ negative) × (exponent (b ∷ rest) ≡ digits)
unfolding is_exponent exponent_negative exponent
written b negative digits rest letter sign some h =
    let s = sign_spelled negative digits rest sign (bare_digits digits some h) in
    (rw (letter, s.1) (number_test digits some h), s.0, s.1)

pub exponent_spelled : (negative : Bool) (digits text : List ℕ) → IsExponent negative digits text → IsDigits digits
    → (is_exponent text ≡ true) × (exponent_negative text ≡ negative) × (exponent text ≡ digits)
exponent_spelled negative digits text (inl e) h = unfold is_exponent exponent_negative exponent in rw (e.0, e.1, e.2) (refl, refl, refl)
exponent_spelled negative digits text (inr w) h =
    elim w.letter [
      | inl small ↦ rw small (written 101 negative digits w.signed refl w.sign w.some_digit h)
      | inr capital ↦ rw capital (written 69 negative digits w.signed refl w.sign w.some_digit h)
    ]
