-- The digits of two pieces, one behind the other.
use Rattle.std.proofs.Common.{◌≡◌, ◌≤◌, List, [], ◌++◌, ℕ, Option, length, take, subst, ap, ◌∙◌, arith, length-append}
use Rattle.std.specs.Char.{IsAsciiDigit}
use Rattle.std.proofs.lemmas.List.{append-nil, take_all}
use Rattle.std.proofs.lemmas.List.Elements.{All-append}
use Rattle.fixed_decimal.specs.declared.digits.Digits.{Digits}
use Rattle.fixed_decimal.specs.Decimals.{IsDigits}
use Rattle.fixed_decimal.specs.Rounding.{number, IsCapped}
use Rattle.fixed_decimal.specs.Parts.{all_digits, IsNumeral}
use Rattle.fixed_decimal.specs.declared.limits.TheConstants.{MAX_VALUE}

pub digits_whole : (d : Digits) → IsNumeral d → IsDigits (all_digits d)
unfolding all_digits
digits_whole d h = All-append IsAsciiDigit d.front.now d.back.now h.front h.back

only_front : (d : Digits) → d.back.now ≡ [] → all_digits d ≡ d.front.now
unfolding all_digits
only_front d e = ap (λ (xs : List ℕ). d.front.now ++ xs) e ∙ append-nil d.front.now

pub front_within : (d : Digits) → length d.front.now ≤ length (all_digits d)
unfolding all_digits
front_within d = omega (arith, length-append d.front.now d.back.now)

-- of one piece alone
pub alone : (d : Digits) (r : Option ℕ) → d.back.now ≡ [] → IsCapped MAX_VALUE (number (take (length d.front.now) (all_digits d))) r
    → IsCapped MAX_VALUE (number d.front.now) r
alone d r e h =
    let same : number (take (length d.front.now) (all_digits d)) ≡ number d.front.now =
    ap (λ (xs : List ℕ). number (take (length d.front.now) xs)) (only_front d e) ∙ ap number (take_all (length d.front.now) d.front.now (omega arith)) in
    subst (λ (n : ℕ). IsCapped MAX_VALUE n r) same h
