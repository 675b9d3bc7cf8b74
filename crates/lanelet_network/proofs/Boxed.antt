-- What a lanelet's polygon holds is in its box.
use Rattle.std.proofs.Common.{◌≡◌, true, false, sym, List, inl, inr, ℤ, ◌≤ℤ◌}
use Rattle.std.specs.Prelude.{int_le}
use Rattle.std.proofs.lemmas.Bool.{and_from, cases_Bool}
use Rattle.fixed_geometry.specs.declared.point.Point.{Point}
use Rattle.fixed_geometry.specs.declared.point.Box2.{Box2}
use Rattle.fixed_geometry.specs.Boxes.{IsInBox, bounds}
use Rattle.fixed_geometry.specs.Polygon.{point_in}
use Rattle.fixed_geometry.proofs.Inside.{point_in-bounds}
use Rattle.lanelet_network.specs.Boxes.{in_range, in_box}
use Rattle.lanelet_network.proofs.Nearest.{test_passes}

range_holds : (low high z : ℤ) → low ≤ℤ z → z ≤ℤ high → in_range low high z ≡ true
unfolding in_range
range_holds low high z h k = and_from (int_le low z) (int_le z high) (test_passes low z h) (test_passes z high k)

box_holds : (box : Box2) (p : Point) → IsInBox box p → in_box box p ≡ true
unfolding in_box
box_holds box p h =
    and_from (in_range box.low.x box.high.x p.x) (in_range box.low.y box.high.y p.y) (range_holds box.low.x box.high.x p.x h.left h.right) (range_holds box.low.y box.high.y p.y h.below h.above)

-- a point outside the bounds is not in the polygon
pub not_held : (corners : List Point) (p : Point) → in_box (bounds corners) p ≡ false → false ≡ point_in p corners
not_held corners p outside =
    elim (cases_Bool (point_in p corners)) [
      | inr fails ↦ sym fails
      | inl passes ↦ (let inside = box_holds (bounds corners) p (point_in-bounds p corners passes) in absurd (cc))
    ]
