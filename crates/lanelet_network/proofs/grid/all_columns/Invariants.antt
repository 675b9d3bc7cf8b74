use Rattle.std.proofs.Common.{◌≡◌}
use Rattle.lanelet_network.specs.Cells.{columns_of}
use Rattle.lanelet_network.proofs.grid.all_columns.Given as goal

abbrev pub invariant-loop-number : goal.invariant-loop-number
invariant-loop-number l = l.columns.items ≡ columns_of l.in_x l.in_y l.number l.size.1 l.places
