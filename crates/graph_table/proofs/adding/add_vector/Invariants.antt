use Rattle.std.proofs.Common.{◌≡◌}
use Rattle.graph_table.proofs.Added.{added}
use Rattle.graph_table.proofs.adding.add_vector.Given as goal

abbrev pub invariant-loop-i : goal.invariant-loop-i
invariant-loop-i l = l.cost ≡ added l.i l.initial.cost l.vector
