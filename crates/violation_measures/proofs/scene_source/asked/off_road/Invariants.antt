use Rattle.std.proofs.Common.{◌≡◌, ◌≤◌, take}
use Rattle.std.specs.Prelude.{not, count_by}
use Rattle.std.specs.List.{list_any}
use Rattle.lanelet_network.specs.Lanes.{holds}
use Rattle.violation_measures.proofs.scene_source.asked.off_road.Given as goal

abbrev pub invariant-loop-corner : goal.invariant-loop-corner
invariant-loop-corner l =
    (l.count ≡ count_by (λ corner. not (list_any (holds corner) l.network)) (take l.corner-index l.corners)) × (l.count ≤ l.corner-index)
