-- The source of the tests: a hundred dials, each of which always shows its number.
use Rattle.std.proofs.Common.{ℕ, pos, cond, Option, Some, None, arith}
use Rattle.std.specs.Prelude.{codes, nat_lt, min}
use Rattle.std.specs.Str.{bytes_eq}
use Rattle.std.proofs.lemmas.Int.{ints}
use Rattle.expressions.specs.declared.tree.Argument.{Argument}
use Rattle.expressions.specs.declared.tree.Argument.TheVariants.{Named, Number}
use Rattle.violation_measures.specs.Intervals.{IsIn, from_to}
use Rattle.violation_measures.specs.Sources.{Features, AreSound}

abbrev pub dial_of : Option Argument → Option ℕ
dial_of (Some (Number n)) = cond (nat_lt n 100) (Some n) None
dial_of (Some (Named name)) = None
dial_of None = None

-- `dial(N)` for each N below 100
abbrev pub dials : Features
dials = record {
  find = λ name argument. cond (bytes_eq name (codes "dial")) (dial_of argument) None;
  bounds = λ n. from_to (pos 0) (pos 100);
  value = λ n step. pos (min n 100);
}

pub dials_sound : AreSound dials
dials_sound = record {
  least = λ n known. omega (arith, ints);
  ordered = λ n known. omega (arith, ints);
  most = λ n known. omega (arith, ints);
  within = λ n step known is. record { above = omega (arith, ints); below = omega (arith, ints) };
}
