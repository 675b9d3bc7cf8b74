-- Ways between points, their products, and how far a point is ahead and to the left of another.
use Rattle.std.specs.Prelude.{ℤ, pos, ◌+ℤ◌, ◌-ℤ◌, ◌*ℤ◌}
use Rattle.fixed_geometry.specs.declared.limits.TheConstants.{MICROS_PER_UNIT}
use Rattle.fixed_geometry.specs.declared.point.Point.{Point}
use Rattle.fixed_geometry.specs.Rounding.{round_div}

-- how to come from p to q
unfoldable pub way : Point → Point → Point
way p q = record { x = q.x -ℤ p.x; y = q.y -ℤ p.y }

-- above 0 where v leads more ahead along u than back
unfoldable pub dot : Point → Point → ℤ
dot u v = u.x *ℤ v.x +ℤ u.y *ℤ v.y

-- above 0 where v leads to the left of u
unfoldable pub turn : Point → Point → ℤ
turn u v = u.x *ℤ v.y -ℤ u.y *ℤ v.x

-- how far q is from p along the direction d, below 0 where it is behind
unfoldable pub ahead : Point → Point → Point → ℤ
ahead p d q = round_div (dot d (way p q)) (pos MICROS_PER_UNIT)

-- how far q is to the left of p as seen along the direction d, below 0 where it is to the right
unfoldable pub beside : Point → Point → Point → ℤ
beside p d q = round_div (turn d (way p q)) (pos MICROS_PER_UNIT)
