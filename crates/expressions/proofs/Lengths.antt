-- How many bytes numbers and names have.
use Rattle.std.proofs.Common.{◌≡◌, ℕ, ◌+◌, ◌<◌, ◌≤◌, ◌^◌, ◌/◌, ◌%◌, Bool, true, false, ◌&&◌, [], ◌∷◌, List, length, refl, ap, ◌∙◌, arith, length-append}
use Rattle.std.specs.Prelude.{nat_lt, nat_le, slice_index}
use Rattle.std.specs.List.{list_all}
use Rattle.std.specs.Fmt.{decimal}
use Rattle.std.proofs.lemmas.Bool.Decides.{nat_tests}
use Rattle.std.proofs.lemmas.Fmt.{decimal_step, decimal_digit, length-decimal-le}
use Rattle.preorder.specs.declared.limits.TheConstants.{MAX_NAME}
use Rattle.preorder.specs.Name.{is_name, is_letter, is_name_byte}

pub digits_more : (n : ℕ) → 10 ≤ n → n < 2 ^ 64 → length (decimal n) ≡ length (decimal (n / 10)) + 1
digits_more n h k = ap (length {A = ℕ}) (decimal_step n h k) ∙ length-append (decimal (n / 10)) ((48 + n % 10) ∷ [])

pub digits_one : (n : ℕ) → n < 10 → length (decimal n) ≡ 1
digits_one n h = ap (length {A = ℕ}) (decimal_digit n h)

pub digits_few : (n : ℕ) → n < 2 ^ 64 → length (decimal n) ≤ 20
digits_few n h = length-decimal-le 20 n (omega arith) (omega arith) h

second : (a b c : Bool) → (a && (b && c)) ≡ true → b ≡ true
second true true true e = refl
second true true false e = absurd cc
second true false c e = absurd cc
second false b c e = absurd cc

pub name_short : (name : List ℕ) → is_name name ≡ true → length name ≤ MAX_NAME
unfolding is_name
name_short name e =
    let k = second (nat_lt 0 (length name)) (nat_le (length name) MAX_NAME) (is_letter (slice_index name 0) && list_all is_name_byte name) e in
    grind (arith, nat_tests, k)
