use Rattle.violation_measures.proofs.VectorLaws.{run_none, run_one, run_more, vector_none, vector_whole}
use Rattle.violation_measures.proofs.laws.runs_add_up.Goals as goal

pub returns-clause-none : goal.returns-clause-none
returns-clause-none c = run_none

pub returns-clause-one : goal.returns-clause-one
returns-clause-one c = run_one

pub returns-clause-more : goal.returns-clause-more
returns-clause-more c = run_more

pub returns-clause-empty : goal.returns-clause-empty
returns-clause-empty c = vector_none

pub returns-clause-whole : goal.returns-clause-whole
returns-clause-whole c = vector_whole
