use Rattle.std.proofs.Common.{◌≡◌, ◌∙◌, arith, inl, inr}
use Rattle.std.proofs.lemmas.Int.{ints}
use Rattle.fixed_geometry.specs.Vectors.{turn}
use Rattle.moving_obstacles.proofs.Aside.{turned}
use Rattle.moving_obstacles.proofs.ahead.is_far_beside.Goals as goal

pub returns-then-is_far_left : goal.returns-then-is_far_left
returns-then-is_far_left c = λ h.
    let aside : c.dot-aside.result ≡ turn c.args.unit c.args.way = c.dot-aside.ensures ∙ turned c.args.unit c.left_of.result c.args.way c.left_of.ensures.x c.left_of.ensures.y in
    inl (omega (arith, ints, c.is_far_left.ensures h, aside))

pub returns-else-is_far_left : goal.returns-else-is_far_left
returns-else-is_far_left c = λ h.
    let aside : c.dot-aside.result ≡ turn c.args.unit c.args.way = c.dot-aside.ensures ∙ turned c.args.unit c.left_of.result c.args.way c.left_of.ensures.x c.left_of.ensures.y in
    inr (omega (arith, ints, c.is_far_right.ensures h, aside))
