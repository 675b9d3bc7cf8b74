use Rattle.std.proofs.Common.{◌≡◌, ◌∙◌, ap, subst, List}
use Rattle.std.proofs.lemmas.List.{take_all}
use Rattle.fixed_geometry.specs.declared.point.Point.{Point}
use Rattle.fixed_geometry.specs.declared.point.Box2.{Box2}
use Rattle.fixed_geometry.specs.Boxes.{bounds}
use Rattle.moving_obstacles.specs.Bounds.{IsBoxIn, AreBounds}
use Rattle.moving_obstacles.proofs.Bounding.{bounds_more}
use Rattle.moving_obstacles.proofs.bounded_placement.bounds_of_all.Goals as goal

pub loop-shape-preserved : goal.loop-shape-preserved
loop-shape-preserved c =
    let In : Box2 → Type 0 = λ box. IsBoxIn box c.joined-held.result in
    let is : c.bounds.result ≡ bounds c.shape-item.result = c.bounds.ensures.value ∙ ap bounds c.corners.ensures.value in
    record {
      in_range = c.joined-held.ensures.in_range;
      holds = bounds_more c.args.shapes.now c.loop-shape.shape-index c.shape-item.result c.loop-shape.held c.joined-held.result c.loop-shape-test.true c.loop-shape.invariant.holds c.shape-item.is c.joined-held.ensures.first (subst In is c.joined-held.ensures.second);
    }

pub returns : goal.returns
returns c =
    let Held : List (List Point) → Type 0 = λ shapes. AreBounds shapes c.loop-shape.held in
    subst Held (take_all c.loop-shape.shape-index c.args.shapes.now c.loop-shape-test.false) (record { in_range = c.loop-shape.invariant.in_range; holds = c.loop-shape.invariant.holds })
