use Rattle.rulebook_cli.proofs.Accepted.{plans_accepted}
use Rattle.rulebook_cli.proofs.laws.plans_are_accepted.Goals as goal

pub returns : goal.returns
returns c = plans_accepted
