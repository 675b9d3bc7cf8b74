use Rattle.std.proofs.Common.{◌≡◌, ◌++◌, take}
use Rattle.std.specs.List.{flat_map}
use Rattle.std.specs.String.{string_bytes}
use Rattle.rulebook_commands.specs.Show.{problem_line}
use Rattle.rulebook_commands.proofs.showing.push_problems.Given as goal

abbrev pub invariant-loop-problem : goal.invariant-loop-problem
invariant-loop-problem l = string_bytes l.out ≡ string_bytes l.initial.out ++ flat_map problem_line (take l.problem-index l.problems)
