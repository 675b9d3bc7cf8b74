-- Which lanelets touch which cells of the plane: this project's own.
use Rattle.std.specs.Prelude.{◌≡◌, ℕ, ◌+◌, List, [], length, map, slice_get}
use Rattle.std.specs.List.{filter, range_with_len}
use Rattle.std.specs.Option.{option_map_or}
use Rattle.fixed_geometry.specs.declared.point.Point.{Point}
use Rattle.lanelet_network.specs.Lanes.{Lane, holds_at}
use Rattle.lanelet_network.specs.Strips.{strip, reaching}
use Rattle.lanelet_network.specs.LaneReach.{reach_in_x, reach_in_y}
use Rattle.lanelet_network.specs.declared.axis.Reach.{Reach}
use Rattle.lanelet_network.specs.declared.grid.Grid.{Grid}

-- a column's cells, from below: for each the places that touch its row
abbrev pub cells_of : List Reach → ℕ → List ℕ → List (List ℕ)
cells_of in_y rows places = map (λ row. reaching in_y row places) (range_with_len 0 rows)

-- all columns, from the left
abbrev pub columns_of : List Reach → List Reach → ℕ → ℕ → List ℕ → List (List (List ℕ))
columns_of in_x in_y columns rows places =
    map (λ column. cells_of in_y rows (reaching in_x column places)) (range_with_len 0 columns)

-- the grid's cells hold the places of the lanelets whose boxes touch them
pub record IsGridOf (lanes : List Lane) (grid : Grid) : Type 0 where
  pub cells : grid.columns.items ≡ columns_of (map (reach_in_x grid.in_x) lanes)
      (map (reach_in_y grid.in_y) lanes) (grid.in_x.last + 1) (grid.in_y.last + 1)
      (range_with_len 0 (length lanes))

-- the places in a column's cell at the row
abbrev pub cell_in : List (List ℕ) → ℕ → List ℕ
cell_in column row = option_map_or (λ (places : List ℕ). places) (slice_get column row) []

-- the places in the cell at the column and the row
abbrev pub places_in : List (List (List ℕ)) → ℕ → ℕ → List ℕ
places_in columns column row =
    option_map_or (λ (cells : List (List ℕ)). cell_in cells row) (slice_get columns column) []

-- the places in the point's cell
unfoldable pub places_at : Grid → Point → List ℕ
places_at grid p =
    places_in grid.columns.items (strip grid.in_x p.x) (strip grid.in_y p.y)

-- of the places, those whose lanelets hold the point are those of all that hold it, in order
pub record AreAsked (lanes : List Lane) (p : Point) (places : List ℕ) : Type 0 where
  pub all : filter (λ place. holds_at lanes place p) places
      ≡ filter (λ place. holds_at lanes place p) (range_with_len 0 (length lanes))
