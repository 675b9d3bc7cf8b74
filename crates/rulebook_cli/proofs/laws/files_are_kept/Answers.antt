use Rattle.rulebook_cli.proofs.OneOutcome.{files_kept}
use Rattle.rulebook_cli.proofs.laws.files_are_kept.Goals as goal

pub returns : goal.returns
returns c = files_kept
