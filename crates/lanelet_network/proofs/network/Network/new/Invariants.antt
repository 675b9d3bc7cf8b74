use Rattle.std.proofs.Common.{◌≡◌, map, take}
use Rattle.lanelet_network.specs.Lanes.{lane_of}
use Rattle.lanelet_network.proofs.network.Network.new.Given as goal

abbrev pub invariant-loop-lanelet : goal.invariant-loop-lanelet
invariant-loop-lanelet l = l.lanes.items ≡ map lane_of (take l.lanelet-index l.lanelet-items)
