use Rattle.std.proofs.Common.{take}
use Rattle.std.specs.Prelude.{All}
use Rattle.fixed_geometry.specs.Boxes.{bounds, IsBoxInRange}
use Rattle.moving_obstacles.specs.Bounds.{IsBoxIn}
use Rattle.moving_obstacles.proofs.bounded_placement.bounds_of_all.Given as goal

abbrev pub invariant-loop-shape : goal.invariant-loop-shape
invariant-loop-shape l = record {
  in_range : IsBoxInRange l.held;
  holds : All (λ corners. IsBoxIn (bounds corners) l.held) (take l.shape-index l.shapes);
}
