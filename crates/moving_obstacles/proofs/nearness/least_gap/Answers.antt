use Rattle.std.proofs.Common.{rules, ◌≡◌, ◌∙◌, ap, List, ℤ, take, FitsSigned, w64, to_z, to_z-of_z}
use Rattle.std.specs.Prelude.{map}
use Rattle.std.specs.List.{fold}
use Rattle.std.specs.Int.{int_min}
use Rattle.fixed_geometry.specs.declared.point.Point.{Point}
use Rattle.fixed_geometry.specs.Boxes.{bounds, box_gap}
use Rattle.moving_obstacles.proofs.Leasts.{least_more}
use Rattle.moving_obstacles.proofs.nearness.least_gap.Goals as goal

pub loop-shape-preserved : goal.loop-shape-preserved
loop-shape-preserved c =
    let f : FitsSigned w64 c.lesser-nearest.result = search rules in
    let g : FitsSigned w64 c.args.least = c.ranges.least in
    let h : FitsSigned w64 c.gap.result = search rules in
    let gap_of : List Point → ℤ = λ corners. box_gap c.args.ego (bounds corners) in
    let held = simp to_z-of_z at c.loop-shape.invariant.value in
    let before : to_z w64 c.loop-shape.nearest-bits ≡ fold int_min c.args.least (map gap_of (take c.loop-shape.shape-index c.args.shapes.now)) = held in
    let here = c.gap.ensures.value ∙ ap gap_of c.shape-item.is in
    let step : c.lesser-nearest.result ≡ int_min (to_z w64 c.loop-shape.nearest-bits) c.gap.result = simp to_z-of_z at c.lesser-nearest.ensures.value in
    let value = least_more gap_of c.args.shapes.now c.loop-shape.shape-index c.shape-item.result c.args.least _ c.gap.result c.lesser-nearest.result c.loop-shape-test.true before here step in
    record { value = simp to_z-of_z value; low = simp to_z-of_z c.lesser-nearest.ensures.low }
