use Rattle.std.proofs.Common.{◌≡◌, take}
use Rattle.lanelet_network.specs.Strips.{reaching}
use Rattle.lanelet_network.proofs.grid.reaching.Given as goal

abbrev pub invariant-loop-place : goal.invariant-loop-place
invariant-loop-place l = l.reached.items ≡ reaching l.reaches l.strip (take l.place-index l.places)
