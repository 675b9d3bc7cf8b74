use Rattle.std.proofs.Common.{◌≡◌, map, take}
use Rattle.lanelet_network.specs.LaneReach.{reach_in_y}
use Rattle.lanelet_network.proofs.grid.reaches_in_y.Given as goal

abbrev pub invariant-loop-lane : goal.invariant-loop-lane
invariant-loop-lane l = l.reaches.items ≡ map (reach_in_y l.axis) (take l.lane-index l.lanes)
