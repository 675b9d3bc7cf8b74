-- Boxes that hold shapes.
use Rattle.std.specs.Prelude.{◌≤ℤ◌, List, All}
use Rattle.fixed_geometry.specs.declared.point.Point.{Point}
use Rattle.fixed_geometry.specs.declared.point.Box2.{Box2}
use Rattle.fixed_geometry.specs.Boxes.{bounds, IsBoxInRange}

-- the first box lies in the second
pub record IsBoxIn (inner outer : Box2) : Type 0 where
  pub left : outer.low.x ≤ℤ inner.low.x
  pub right : inner.high.x ≤ℤ outer.high.x
  pub below : outer.low.y ≤ℤ inner.low.y
  pub above : inner.high.y ≤ℤ outer.high.y

-- the box is in range, and holds the shapes
pub record AreBounds (shapes : List (List Point)) (box : Box2) : Type 0 where
  pub in_range : IsBoxInRange box
  pub holds : All (λ corners. IsBoxIn (bounds corners) box) shapes
