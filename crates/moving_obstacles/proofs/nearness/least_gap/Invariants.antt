use Rattle.std.proofs.Common.{◌≡◌, take, ◌≤ℤ◌, pos}
use Rattle.std.specs.Prelude.{map}
use Rattle.std.specs.List.{fold}
use Rattle.std.specs.Int.{int_min}
use Rattle.fixed_geometry.specs.Boxes.{bounds, box_gap}
use Rattle.moving_obstacles.proofs.nearness.least_gap.Given as goal

abbrev pub invariant-loop-shape : goal.invariant-loop-shape
invariant-loop-shape l = record {
  value : l.nearest ≡ fold int_min l.least (map (λ corners. box_gap l.ego (bounds corners)) (take l.shape-index l.shapes));
  low : pos 0 ≤ℤ l.nearest;
}
