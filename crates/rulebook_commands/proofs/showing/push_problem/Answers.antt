use Rattle.std.proofs.Common.{rules, append_assoc}
use Rattle.rulebook_commands.specs.Show.{problem_line}
use Rattle.rulebook_commands.proofs.showing.push_problem.Goals as goal

pub returns : goal.returns
unfolding problem_line
returns c = search (rules, append_assoc)
