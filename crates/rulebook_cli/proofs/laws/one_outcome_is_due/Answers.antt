use Rattle.rulebook_cli.proofs.OneOutcome.{one_outcome}
use Rattle.rulebook_cli.proofs.laws.one_outcome_is_due.Goals as goal

pub returns : goal.returns
returns c = one_outcome
