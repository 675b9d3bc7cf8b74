-- Where a bound is nearest to a point, and how it leads there: this project's own, by squared
-- distances.
use Rattle.std.specs.Prelude.{ℕ, ◌+◌, ◌-◌, Bool, nat_lt, if◌then◌else◌, ℤ, pos, int_le}
use Rattle.std.specs.Prelude.{List, length, slice_index_or}
use Rattle.std.specs.List.{list_all, position_or_len}
use Rattle.fixed_geometry.specs.declared.point.Point.{Point}
use Rattle.fixed_geometry.specs.Vectors.{way, dot}

unfoldable pub squared_distance : Point → Point → ℤ
squared_distance p q = dot (way p q) (way p q)

-- no point of the bound is nearer to p than q
unfoldable pub is_nearest : Point → List Point → Point → Bool
is_nearest p bound q =
    list_all (λ other. int_le (squared_distance p q) (squared_distance p other)) bound

-- the place of the first point at the least squared distance from p
unfoldable pub nearest : Point → List Point → ℕ
nearest p bound = position_or_len (is_nearest p bound) bound

abbrev pub point_at : List Point → ℕ → Point
point_at bound place = slice_index_or bound place (record { x = pos 0; y = pos 0 })

-- from the point at the place to the next, and for the last point from the one before it
unfoldable pub lead : List Point → ℕ → Point
lead bound place =
    if nat_lt (place + 1) (length bound)
    then way (point_at bound place) (point_at bound (place + 1))
    else way (point_at bound (place - 1)) (point_at bound place)

-- how the bound leads where it is nearest to p
unfoldable pub direction_along : List Point → Point → Point
direction_along bound p = lead bound (nearest p bound)
