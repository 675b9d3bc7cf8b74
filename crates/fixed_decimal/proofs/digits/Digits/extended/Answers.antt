use Rattle.std.proofs.Common.{◌≡◌, ◌*◌, ◌^◌, ℕ, arith, sym, ap, ◌∙◌, subst, take}
use Rattle.std.proofs.lemmas.List.{take_all}
use Rattle.fixed_decimal.specs.Parts.{all_digits}
use Rattle.fixed_decimal.specs.Rounding.{number, IsCapped}
use Rattle.fixed_decimal.proofs.Numbers.{whole_capped, scaled_up}
use Rattle.fixed_decimal.proofs.digits.Digits.extended.Goals as goal
use Rattle.fixed_decimal.specs.declared.limits.TheConstants.{MAX_VALUE}

pub returns-in-None : goal.returns-in-None
returns-in-None c =
    let ds = all_digits c.args.self in
    let all : number (take c.count.result ds) ≡ number ds = ap number (take_all c.count.result ds (omega (arith, c.count.ensures))) in
    omega (arith, c.in-None.ensures, all, whole_capped ds c.args.zeros, scaled_up (number ds) c.args.zeros)

pub returns-in-Some : goal.returns-in-Some
returns-in-Some c =
    let ds = all_digits c.args.self in
    let all : c.in-Some.value ≡ number ds = c.in-Some.ensures.0 ∙ ap number (take_all c.count.result ds (omega (arith, c.count.ensures))) in
    subst (λ (n : ℕ). IsCapped MAX_VALUE n c.with_zeros.result) (ap (λ (n : ℕ). n * 10 ^ c.args.zeros) all ∙ sym (scaled_up (number ds) c.args.zeros)) c.with_zeros.ensures
