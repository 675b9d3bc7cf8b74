use Rattle.std.proofs.Common.{◌≡◌, ◌∙◌, ap, sym, false}
use Rattle.fixed_geometry.specs.declared.point.Box2.{Box2}
use Rattle.lanelet_network.specs.Lanes.{holds}
use Rattle.lanelet_network.specs.Boxes.{in_box}
use Rattle.lanelet_network.proofs.Boxed.{not_held}
use Rattle.lanelet_network.proofs.lane.Lane.holds.Goals as goal

pub returns-then-not-is_in_box : goal.returns-then-not-is_in_box
returns-then-not-is_in_box c =
    let outside : in_box c.self.inside.bounds c.args.point ≡ false = cc in
    let is = c.self.invariant.2 in
    not_held c.self.inside.polygon c.args.point (ap (λ (box : Box2). in_box box c.args.point) (sym is) ∙ outside) ∙ ap (holds c.args.point) c.self.view_is
