use Rattle.std.proofs.Common.{◌≡◌, take}
use Rattle.std.specs.Prelude.{All, map}
use Rattle.fixed_geometry.specs.Plane.{IsInRange}
use Rattle.moving_obstacles.specs.Placing.{placed_point}
use Rattle.moving_obstacles.proofs.placing.placed_corners.Given as goal

abbrev pub invariant-loop-corner : goal.invariant-loop-corner
invariant-loop-corner l =
    record { placed : l.placed.items ≡ map (placed_point l.pose) (take l.corner-index l.corners); in_range : All IsInRange l.placed.items }
