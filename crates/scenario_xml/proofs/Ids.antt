-- A number of few digits is small.
use Rattle.std.proofs.Common.{◌≡◌, ℕ, ◌<◌, ◌≤◌, Bool, true, false, cond, List, [], ◌∷◌, length, Some, None, arith, refl, subst}
use Rattle.std.specs.Prelude.{◌&&◌}
use Rattle.std.specs.Str.Parse.{digits_value, AllDigits}
use Rattle.std.specs.List.{list_all}
use Rattle.std.specs.Char.{is_ascii_digit, digit_value}
use Rattle.std.proofs.lemmas.Bool.Decides.{nat_tests}
use Rattle.std.proofs.lemmas.Str.Parse.{tells_digits, numerals_by_value, digits_value_short}
use Rattle.reading.specs.Words.{number_of, is_word}
use Rattle.reading.proofs.Truth.{both}
use Rattle.scenario_model.specs.declared.limits.TheConstants.{PAST_IDS}
use Rattle.scenario_xml.specs.declared.limits.TheConstants.{MAX_ID_DIGITS}

chosen : (b : Bool) (v n : ℕ) → cond b (Some v) None ≡ Some n → (b ≡ true) × (v ≡ n)
chosen true v n e = (refl, cc)
chosen false v n e = absurd cc

below_ten : (c : ℕ) → is_ascii_digit c ≡ true → digit_value c < 10
below_ten c h = grind (arith, nat_tests)

all_digits : (text : List ℕ) → list_all is_ascii_digit text ≡ true → AllDigits 10 text
all_digits [] h = tt
all_digits (c ∷ cs) h =
    let k = both (is_ascii_digit c) (list_all is_ascii_digit cs) h in
    (below_ten c k.0, all_digits cs k.1)

pub short_number : (text : List ℕ) (n : ℕ) → number_of text ≡ Some n → length text ≤ MAX_ID_DIGITS → n < PAST_IDS
unfolding number_of
short_number text n e few =
    let k = chosen (is_word text && list_all is_ascii_digit text) (digits_value 10 text) n e in
    let digits = all_digits text (both (is_word text) (list_all is_ascii_digit text) k.0).1 in
    subst (λ (m : ℕ). m < PAST_IDS) k.1 (digits_value_short (numerals_by_value (AllDigits 10) tells_digits) text MAX_ID_DIGITS digits few)
