use Rattle.std.proofs.Common.{◌≡◌}
use Rattle.lanelet_network.specs.Cells.{cells_of}
use Rattle.lanelet_network.proofs.grid.made_column.Given as goal

abbrev pub invariant-loop-row : goal.invariant-loop-row
invariant-loop-row l = l.cells.items ≡ cells_of l.in_y l.row l.places
