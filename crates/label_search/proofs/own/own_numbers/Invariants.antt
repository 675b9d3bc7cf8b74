use Rattle.std.proofs.Common.{◌≡◌, length}
use Rattle.label_search.proofs.own.own_numbers.Given as goal

abbrev pub invariant-loop-number : goal.invariant-loop-number
invariant-loop-number g l = length l.numbers.items ≡ l.count
