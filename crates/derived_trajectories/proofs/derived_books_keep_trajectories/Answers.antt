use Rattle.derived_trajectories.proofs.Amounts.{carried, kept}
use Rattle.derived_trajectories.proofs.derived_books_keep_trajectories.Goals as goal

pub returns-clause-carried : goal.returns-clause-carried
returns-clause-carried c = carried

pub returns-clause-kept : goal.returns-clause-kept
returns-clause-kept c = kept
