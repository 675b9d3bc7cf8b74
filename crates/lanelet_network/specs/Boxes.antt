-- Closed boxes along the axes, and the points in them.
use Rattle.std.specs.Prelude.{Bool, ◌&&◌, ℤ, int_le}
use Rattle.fixed_geometry.specs.declared.point.Point.{Point}
use Rattle.fixed_geometry.specs.declared.point.Box2.{Box2}

-- z lies in the closed range
unfoldable pub in_range : ℤ → ℤ → ℤ → Bool
in_range low high z = int_le low z && int_le z high

-- the point lies in the closed box
unfoldable pub in_box : Box2 → Point → Bool
in_box box p = in_range box.low.x box.high.x p.x && in_range box.low.y box.high.y p.y
