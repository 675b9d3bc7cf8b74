use Rattle.std.proofs.Common.{◌≡◌, arith, add-one, ap, ◌+◌, ◌^◌, ◌*◌, ℕ}
use Rattle.std.proofs.Math.Nat.{pow-suc}
use Rattle.fixed_decimal.proofs.Numbers.{zeros_grow}
use Rattle.fixed_decimal.proofs.digits.with_zeros.Goals as goal

one_more : (v i s : ℕ) → s ≡ v * 10 ^ i → s * 10 ≡ v * 10 ^ (i + 1)
one_more v i s e =
    omega (arith, e, ap (λ (t : ℕ). v * t) (pow-suc 10 i), ap (λ (t : ℕ). v * 10 ^ t) (add-one i))

pub returns-then-shifted : goal.returns-then-shifted
returns-then-shifted c =
    omega (arith, zeros_grow c.args.value (c.loop-i._i + 1) c.args.zeros (omega arith), one_more c.args.value c.loop-i._i c.loop-i.shifted c.loop-i.invariant.0)

pub loop-i-preserved : goal.loop-i-preserved
loop-i-preserved c = (one_more c.args.value c.loop-i._i c.loop-i.shifted c.loop-i.invariant.0, omega arith, omega arith)
