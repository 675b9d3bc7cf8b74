use Rattle.std.proofs.Common.{◌≡◌, ◌++◌, take}
use Rattle.std.specs.List.{flat_map}
use Rattle.rulebook_commands.specs.Judge.{told_pair}
use Rattle.rulebook_commands.proofs.recordings.push_pairs.Given as goal

abbrev pub invariant-loop-pair : goal.invariant-loop-pair
invariant-loop-pair l = l.out.items ≡ l.initial.out.items ++ flat_map (told_pair l.rules l.runs) (take l.pair-index l.pairs)
