use Rattle.std.proofs.Common.{◌≡◌, ◌++◌, take}
use Rattle.std.specs.List.{flat_map}
use Rattle.rulebook_commands.specs.DeriveFaults.{comma_number}
use Rattle.rulebook_commands.proofs.derivations.push_commas.Given as goal

abbrev pub invariant-loop-number : goal.invariant-loop-number
invariant-loop-number l = l.out.items ≡ l.initial.out.items ++ flat_map comma_number (take l.number-index l.numbers)
