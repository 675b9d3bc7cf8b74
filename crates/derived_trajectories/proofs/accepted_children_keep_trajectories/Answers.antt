use Rattle.derived_trajectories.proofs.Amounts.{driven, driven-kept}
use Rattle.derived_trajectories.proofs.accepted_children_keep_trajectories.Goals as goal

pub returns-clause-carried : goal.returns-clause-carried
returns-clause-carried c = driven

pub returns-clause-kept : goal.returns-clause-kept
returns-clause-kept c = driven-kept
