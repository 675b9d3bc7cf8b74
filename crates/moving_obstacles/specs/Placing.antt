-- Shapes placed at poses. The shapes and the poses are CommonRoad's; that a place is turned in
-- whole numbers is this project's own.
use Rattle.std.specs.Prelude.{◌+ℤ◌, List, map}
use Rattle.fixed_geometry.specs.declared.point.Point.{Point}
use Rattle.fixed_geometry.specs.Turning.{rotate}
use Rattle.fixed_geometry.specs.Shapes.{rectangle, circle}
use Rattle.scenario_model.specs.declared.obstacle.Pose.{Pose}
use Rattle.scenario_model.specs.declared.obstacle.Shape.{Shape}
use Rattle.scenario_model.specs.declared.obstacle.Shape.TheVariants as shape

-- a point of what stands at the pose: turned by the pose's heading, and moved to its position
unfoldable pub placed_point : Pose → Point → Point
placed_point pose point =
    let offset = rotate point pose.heading in
    record { x = pose.position.x +ℤ offset.x; y = pose.position.y +ℤ offset.y }

-- the corners of a shape at the pose; a rectangle stands about its placed center, turned by both
-- headings
unfoldable pub placed : Pose → Shape → List Point
placed pose (shape.Rectangle length width heading center) =
    rectangle (placed_point pose center) (pose.heading +ℤ heading) length width
placed pose (shape.Circle radius center) = circle (placed_point pose center) radius
placed pose (shape.Corners corners) = map (placed_point pose) corners
