-- A number in its range is of a limited size.
use Rattle.std.proofs.Common.{ℕ, ◌≤◌, ℤ, pos, neg_ℤ, ◌≤ℤ◌, unsigned_abs, arith}
use Rattle.std.proofs.lemmas.Int.{ints}
use Rattle.fixed_decimal.specs.declared.limits.TheConstants.{MAX_VALUE}
use Rattle.scenario_xml.specs.Numbers.{least, most, limit}
use Rattle.scenario_xml.specs.declared.quantity.Quantity.{Quantity}
use Rattle.scenario_xml.specs.declared.quantity.Quantity.TheVariants.{Coordinate, Side, Angle, Speed, Tick, Step}
use Rattle.scenario_model.specs.declared.limits.TheConstants.{MAX_COORDINATE, MAX_HEADING, MAX_SPEED, MAX_TICK, MAX_STEP_MICROS}

between : (n : ℤ) (m : ℕ) → neg_ℤ (pos m) ≤ℤ n → n ≤ℤ pos m → unsigned_abs n ≤ m
between n m low high = omega (arith, ints)

below : (n : ℤ) (m : ℕ) → pos 0 ≤ℤ n → n ≤ℤ pos m → unsigned_abs n ≤ m
below n m low high = omega (arith, ints)

positive : (n : ℤ) → pos 1 ≤ℤ n → pos 0 ≤ℤ n
positive n h = omega (arith, ints)

pub within_limit : (quantity : Quantity) (n : ℤ) → least quantity ≤ℤ n → n ≤ℤ most quantity → unsigned_abs n ≤ limit quantity
within_limit Coordinate n low high = between n MAX_COORDINATE low high
within_limit Side n low high = between n MAX_VALUE low high
within_limit Angle n low high = between n MAX_HEADING low high
within_limit Speed n low high = between n MAX_SPEED low high
within_limit Tick n low high = below n MAX_TICK low high
within_limit Step n low high = below n (unsigned_abs MAX_STEP_MICROS) (positive n low) high
