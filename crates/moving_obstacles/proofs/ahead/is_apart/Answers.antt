use Rattle.std.proofs.Common.{FitsSigned, w64, to_z-of_z}
use Rattle.fixed_geometry.specs.Vectors.{turn}
use Rattle.moving_obstacles.specs.Corridor.{IsFarBeside}
use Rattle.moving_obstacles.proofs.Aside.{behind, far_beside}
use Rattle.moving_obstacles.proofs.ahead.is_apart.Goals as goal

pub returns-then-is_behind : goal.returns-then-is_behind
returns-then-is_behind c = λ h. behind c.args.position c.args.unit c.in-Some.way c.args.width c.args.pose c.in-Some.ensures.x c.in-Some.ensures.y (c.is_behind.ensures h)

pub returns-else-is_behind : goal.returns-else-is_behind
returns-else-is_behind c = λ h.
    let width : FitsSigned w64 c.args.width = c.ranges.width in
    let far : IsFarBeside (turn c.args.unit c.in-Some.way) c.args.width = simp to_z-of_z at (c.is_far_beside.ensures h) in
    far_beside c.args.position c.args.unit c.in-Some.way c.args.width c.args.pose c.in-Some.ensures.x c.in-Some.ensures.y far
