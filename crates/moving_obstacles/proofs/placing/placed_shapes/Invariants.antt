use Rattle.std.proofs.Common.{◌≡◌, take}
use Rattle.std.specs.Prelude.{map}
use Rattle.moving_obstacles.specs.Placing.{placed}
use Rattle.moving_obstacles.proofs.placing.placed_shapes.Given as goal

abbrev pub invariant-loop-shape : goal.invariant-loop-shape
invariant-loop-shape l = l.polygons ≡ map (placed l.pose) (take l.shape-index l.shapes)
