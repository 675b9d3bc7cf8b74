use Rattle.command_outcome.proofs.DueOutcomes.{none_due}
use Rattle.rulebook_cli.specs.Asked.{asked}
use Rattle.rulebook_cli.proofs.laws.nothing_is_due_without_a_file.Goals as goal

pub returns : goal.returns
returns c = λ words. none_due (asked words)
