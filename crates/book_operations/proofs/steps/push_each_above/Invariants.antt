use Rattle.std.specs.Prelude.{◌≡◌, ◌++◌}
use Rattle.book_operations.specs.Scripts.{each_above}
use Rattle.book_operations.proofs.steps.push_each_above.Given as goal

abbrev pub invariant-loop-rule : goal.invariant-loop-rule
invariant-loop-rule l = l.statements ≡ l.initial.statements ++ each_above l.new l.rule
