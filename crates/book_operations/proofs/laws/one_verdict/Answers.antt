use Rattle.book_operations.proofs.OneFault.{one-kind, step-fault-once}
use Rattle.book_operations.proofs.Outcomes.{step-once}
use Rattle.book_operations.proofs.laws.one_verdict.Goals as goal

pub returns-clause-one_kind : goal.returns-clause-one_kind
returns-clause-one_kind c = one-kind

pub returns-clause-no_fault : goal.returns-clause-no_fault
returns-clause-no_fault c = λ parent child kind fault is m. step-once parent child kind is fault m

pub returns-clause-one_fault : goal.returns-clause-one_fault
returns-clause-one_fault c = step-fault-once
