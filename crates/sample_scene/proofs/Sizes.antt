-- Products that are small enough.
use Rattle.std.proofs.Common.{ℕ, ◌*◌, ◌^◌, ◌<◌, ◌≤◌, subst, sym, arith}
use Rattle.std.specs.Prelude.{ℤ, pos, ◌*ℤ◌, unsigned_abs}
use Rattle.std.proofs.lemmas.Int.{unsigned_abs-mul}
use Rattle.std.proofs.lemmas.Nat.{mul-le}

pub product_is_small : (speed tick : ℕ) → speed < 2 ^ 8 → tick < 2 ^ 32 → speed * tick ≤ 255 * 4294967295
product_is_small speed tick h k = mul-le speed tick 255 4294967295 (omega (arith, h)) (omega (arith, k))

pub scaled_is_small : (size : ℤ) (times : ℕ) → times < 2 ^ 8 → unsigned_abs (size *ℤ pos times) ≤ 256 * unsigned_abs size
scaled_is_small size times h = subst (λ (n : ℕ). n ≤ 256 * unsigned_abs size) (sym (unsigned_abs-mul size (pos times))) (omega (arith, mul-le (unsigned_abs size) times (unsigned_abs size) 256 (omega arith) (omega (arith, h))))
