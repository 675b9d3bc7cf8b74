use Rattle.book_operations.proofs.OneFault.{script-fault-once}
use Rattle.book_operations.proofs.Outcomes.{one-book, no-fault}
use Rattle.book_operations.proofs.laws.one_outcome.Goals as goal

pub returns-clause-one_book : goal.returns-clause-one_book
returns-clause-one_book c = one-book

pub returns-clause-no_fault : goal.returns-clause-no_fault
returns-clause-no_fault c = no-fault

pub returns-clause-one_fault : goal.returns-clause-one_fault
returns-clause-one_fault c = script-fault-once
