-- The number of a sample scene is below a million.
use Rattle.std.proofs.Common.{◌≡◌, ℕ, ◌<◌, ◌≤◌, Bool, true, false, ◌&&◌, List, length, Option, None, Some, min, refl, sym, ap, subst, ◌∙◌, arith}
use Rattle.std.specs.Prelude.{if◌then◌else◌, nat_le}
use Rattle.std.specs.Char.{is_ascii_digit}
use Rattle.std.specs.List.{list_all}
use Rattle.std.specs.Option.{option_map}
use Rattle.std.specs.Str.Parse.{digits_value}
use Rattle.std.proofs.lemmas.Bool.{and_parts}
use Rattle.std.proofs.lemmas.Str.Parse.{digits_value_short, numerals_by_value, tells_all_ascii_digits}
use Rattle.certificate_text.proofs.NumberLaws.{all_digits}
use Rattle.reading.specs.Words.{is_word, number_of}
use Rattle.reading.specs.declared.words.TheConstants.{PAST}
use Rattle.rulebook_cli.specs.Words.{sample_number}

chosen : (b : Bool) (v n : ℕ) → (if b then Some v else None) ≡ Some n → (b ≡ true) × (v ≡ n)
chosen true v n e = (refl, cc)
chosen false v n e = absurd cc

small_value : (word : List ℕ) (n : ℕ) → length word ≤ 6 → number_of word ≡ Some n → n < 1000000
unfolding number_of
small_value word n short is =
    let both = chosen (is_word word && list_all is_ascii_digit word) (digits_value 10 word) n is in
    let digits = (and_parts (is_word word) (list_all is_ascii_digit word) both.0).1 in
    let below : digits_value 10 word < 1000000 = digits_value_short (numerals_by_value _ tells_all_ascii_digits) word 6 (sym (all_digits word) ∙ digits) short in
    subst (λ (m : ℕ). m < 1000000) both.1 below

by_number : (o : Option ℕ) (m : ℕ) → ((n : ℕ) → o ≡ Some n → n < 1000000) → Some m ≡ option_map (λ n. min n PAST) o → (m < 1000000) × (o ≡ Some m)
by_number None m small is = absurd cc
by_number (Some n) m small is =
    let below = small n refl in
    let same : m ≡ min n PAST = cc in
    let equal : m ≡ n = omega (arith, below, same) in
    (omega (arith, below, equal), ap (λ (k : ℕ). some_of k) (sym equal))
  where
    some_of : ℕ → Option ℕ
    some_of k = Some k

-- what is read of at most six digits
pub small_number : (word : List ℕ) (m : ℕ) → length word ≤ 6 → Some m ≡ option_map (λ n. min n PAST) (number_of word) → (m < 1000000) × (number_of word ≡ Some m)
small_number word m short is = by_number (number_of word) m (λ n there. small_value word n short there) is

is_short : (n : ℕ) → n ≤ 6 → nat_le n 6 ≡ true
is_short n h = search (arith, h)

abbrev if_short : List ℕ → Bool → Option ℕ
if_short word b = if b then number_of word else None

pub number_is : (word : List ℕ) (m : ℕ) → length word ≤ 6 → number_of word ≡ Some m → Some m ≡ sample_number word
number_is word m short is = sym (ap (if_short word) (is_short (length word) short) ∙ is)
