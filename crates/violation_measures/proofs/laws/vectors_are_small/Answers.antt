use Rattle.violation_measures.proofs.VectorLaws.{step_up_to, end_up_to}
use Rattle.violation_measures.proofs.laws.vectors_are_small.Goals as goal

pub returns-clause-step : goal.returns-clause-step
returns-clause-step c = step_up_to

pub returns-clause-end : goal.returns-clause-end
returns-clause-end c = end_up_to
