-- The rounded value is the nearest whole number.
use Rattle.std.proofs.Common.{◌≡◌, ℕ, suc, ◌+◌, ◌*◌, ◌/◌, ◌%◌, ◌^◌, ◌<◌, refl, arith, ℤ, pos, negsuc}
use Rattle.std.proofs.Math.Nat.{div-add-mod, mod-lt}
use Rattle.fixed_decimal.specs.Rounding.{halves_up, scaled, IsNearest, IsRounded}
use Rattle.fixed_decimal.proofs.Numbers.{ten_power}

near_quotient : (n d q r : ℕ) → 2 * d * q + r ≡ 2 * n + d → r < 2 * d → IsNearest n d q
near_quotient n d q r e small =
    let same : 2 * d * q ≡ 2 * (q * d) = omega arith in
    record { above = omega arith; below = omega arith }

halves_nearest : (n d : ℕ) → 0 < d → IsNearest n d (halves_up n d)
unfolding halves_up
halves_nearest n d some =
    let wide : 0 < 2 * d = omega arith in
    near_quotient n d ((2 * n + d) / (2 * d)) ((2 * n + d) % (2 * d)) (div-add-mod (2 * n + d) (2 * d)) (mod-lt (2 * n + d) wide)

pub scaled_rounded : (n : ℕ) (k : ℤ) → IsRounded n k (scaled n k)
unfolding scaled
scaled_rounded n (pos k) = refl
scaled_rounded n (negsuc k) = halves_nearest n (10 ^ suc k) (ten_power (suc k))
