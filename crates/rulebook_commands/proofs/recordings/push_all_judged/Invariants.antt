use Rattle.std.proofs.Common.{◌≡◌, ◌++◌, take}
use Rattle.std.specs.List.{flat_map}
use Rattle.rulebook_commands.specs.Judge.{judged_line}
use Rattle.rulebook_commands.proofs.recordings.push_all_judged.Given as goal

abbrev pub invariant-loop-run : goal.invariant-loop-run
invariant-loop-run l = l.out.items ≡ l.initial.out.items ++ flat_map judged_line (take l.run-index l.runs)
