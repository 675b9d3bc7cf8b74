-- Points and shapes (CommonRoad XML 2020a and 2018b). The limits are this project's own.
use Rattle.std.specs.Prelude.{◌≡◌, ℕ, ◌+◌, ◌-◌, ◌++◌, Bool, ◌&&◌, ◌==◌, List, [], ◌∷◌, length}
use Rattle.std.specs.Prelude.{map, sum, All, ℤ, pos, int_le, nat_le, nat_lt, codes, Option, Some}
use Rattle.std.specs.Prelude.{None, Result, Ok, Err, if◌then◌else◌}
use Rattle.std.specs.Str.{bytes_eq}
use Rattle.element_tree.specs.Document.{Document}
use Rattle.element_tree.specs.Trees.{name_of, children}
use Rattle.fixed_geometry.specs.declared.limits.TheConstants.{MAX_EXTENT, MIN_POLYGON_CORNERS}
use Rattle.fixed_geometry.specs.declared.point.Point.{Point}
use Rattle.reading.specs.Reading.{◌>>=◌, read_all}
use Rattle.scenario_model.specs.Scenario.{corner_count, IsShape}
use Rattle.scenario_model.specs.declared.obstacle.Shape.{Shape}
use Rattle.scenario_model.specs.declared.obstacle.Shape.TheVariants.{Rectangle, Circle, Corners}
use Rattle.scenario_xml.specs.Elements.{child, wanted_number, optional_number}
use Rattle.scenario_xml.specs.declared.fault.ScenarioFault.{ScenarioFault}
use Rattle.scenario_xml.specs.declared.fault.ScenarioFault.TheVariants.{BadShape}
use Rattle.scenario_xml.specs.declared.fault.Wanted.TheVariants.{X, Y, Length, Width, Radius}
use Rattle.scenario_xml.specs.declared.quantity.Quantity.TheVariants.{Coordinate, Side, Angle}
use Rattle.scenario_xml.specs.declared.shape.ShapesSoFar.{ShapesSoFar}
use Rattle.scenario_model.specs.declared.limits.TheConstants.{MAX_CORNERS}

-- `point` or `center`
unfoldable pub point : Document → ℕ → Result Point ScenarioFault
point document k =
    wanted_number document k X Coordinate >>= λ x.
    wanted_number document k Y Coordinate >>= λ y.
    Ok (record { x = x; y = y })

-- a child, after the points before it
unfoldable pub point_step : Document → ℕ → List Point → Result (List Point) ScenarioFault
point_step document k points =
    if bytes_eq (name_of document k) (codes "point") then
    (point document k >>= λ p. Ok (points ++ p ∷ []))
    else Ok points

-- the points in element k, in order
unfoldable pub points : Document → ℕ → Result (List Point) ScenarioFault
points document k = read_all (point_step document) (children document k) []

abbrev pub point_or_origin : Document → Option ℕ → Result Point ScenarioFault
point_or_origin document None = Ok (record { x = pos 0; y = pos 0 })
point_or_origin document (Some c) = point document c

-- the center of a shape
unfoldable pub center : Document → ℕ → Result Point ScenarioFault
center document k = point_or_origin document (child document k (codes "center"))

-- a side or a radius in its limit
unfoldable pub is_extent : ℤ → Bool
is_extent n = int_le (pos 1) n && int_le n (pos MAX_EXTENT)

-- the shapes of the obstacle or problem with an id
unfoldable pub rectangle : Document → ℕ → ℕ → Result Shape ScenarioFault
rectangle document k id =
    wanted_number document k Length Side >>= λ along.
    wanted_number document k Width Side >>= λ across.
    optional_number document k (codes "orientation") Angle >>= λ heading.
    center document k >>= λ middle.
    if is_extent along && is_extent across then Ok (Rectangle along across heading middle)
    else Err (BadShape id)

unfoldable pub circle : Document → ℕ → ℕ → Result Shape ScenarioFault
circle document k id =
    wanted_number document k Radius Side >>= λ radius.
    center document k >>= λ middle.
    if is_extent radius then Ok (Circle radius middle) else Err (BadShape id)

unfoldable pub polygon : Document → ℕ → ℕ → Result Shape ScenarioFault
polygon document k id =
    points document k >>= λ corners.
    if nat_le MIN_POLYGON_CORNERS (length corners) && nat_le (length corners) MAX_CORNERS then
    Ok (Corners corners)
    else Err (BadShape id)

-- the shape that element k is, none where its name is no shape's
unfoldable pub any_shape : Document → ℕ → ℕ → Result (Option Shape) ScenarioFault
any_shape document k id =
    if bytes_eq (name_of document k) (codes "rectangle") then
    (rectangle document k id >>= λ shape. Ok (Some shape))
    else if bytes_eq (name_of document k) (codes "circle") then
    (circle document k id >>= λ shape. Ok (Some shape))
    else if bytes_eq (name_of document k) (codes "polygon") then
    (polygon document k id >>= λ shape. Ok (Some shape))
    else Ok None

-- one shape more, if there is room for its corners
abbrev pub with_shape : ShapesSoFar → Option Shape → Result ShapesSoFar ScenarioFault
with_shape s None = Ok s
with_shape s (Some shape) =
    if nat_lt s.room (corner_count shape) then Err (BadShape s.id)
    else Ok (record s { shapes = s.shapes ++ shape ∷ []; room = s.room - corner_count shape })

-- a child, after the shapes before it
unfoldable pub shape_step : Document → ℕ → ShapesSoFar → Result ShapesSoFar ScenarioFault
shape_step document k s = any_shape document k s.id >>= with_shape s

abbrev pub some_shapes : ShapesSoFar → Result (List Shape) ScenarioFault
some_shapes s = if length s.shapes == 0 then Err (BadShape s.id) else Ok s.shapes

-- the shapes of element k, with no more corners in all than may be
unfoldable pub shapes : Document → ℕ → ℕ → Result (List Shape) ScenarioFault
shapes document k id =
    read_all (shape_step document) (children document k)
    (record { id = id; shapes = []; room = MAX_CORNERS }) >>= some_shapes

-- the shapes read so far, with the corners that may still come
pub record IsSoFar (s : ShapesSoFar) : Type 0 where
  pub shapes : All IsShape s.shapes
  pub corners : sum (map corner_count s.shapes) + s.room ≡ MAX_CORNERS
