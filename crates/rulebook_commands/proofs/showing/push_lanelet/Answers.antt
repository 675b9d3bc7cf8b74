use Rattle.std.proofs.Common.{rules, append_assoc}
use Rattle.rulebook_commands.specs.Show.{lanelet_line}
use Rattle.rulebook_commands.proofs.showing.push_lanelet.Goals as goal

pub returns : goal.returns
unfolding lanelet_line
returns c = search (rules, append_assoc)
