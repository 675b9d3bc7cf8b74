use Rattle.lanelet_network.proofs.Nearest.{IsFirstLeast}
use Rattle.lanelet_network.proofs.bound.nearest.Given as goal

abbrev pub invariant-loop-i : goal.invariant-loop-i
invariant-loop-i l = IsFirstLeast l.p l.bound l.i l.place l.least
