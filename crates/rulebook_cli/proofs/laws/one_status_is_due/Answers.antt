use Rattle.rulebook_cli.proofs.OneOutcome.{one_status}
use Rattle.rulebook_cli.proofs.laws.one_status_is_due.Goals as goal

pub returns : goal.returns
returns c = one_status
