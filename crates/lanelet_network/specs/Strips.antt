-- How an axis is cut into strips, and which of them a range touches: this project's own. Any lines
-- would do: the strip of what lies in a range is one that the range touches, wherever the lines are.
use Rattle.std.specs.Prelude.{ℕ, ◌/◌, Bool, false, ◌&&◌, nat_le, ℤ, ◌-ℤ◌, unsigned_abs, min, max}
use Rattle.std.specs.Prelude.{List, slice_get}
use Rattle.std.specs.Int.{int_max}
use Rattle.std.specs.List.{filter}
use Rattle.std.specs.Option.{option_map_or}
use Rattle.lanelet_network.specs.declared.axis.Axis.{Axis}
use Rattle.lanelet_network.specs.declared.axis.Reach.{Reach}

-- the strip in which z lies: the first has no lower end, and the last no upper one
unfoldable pub strip : Axis → ℤ → ℕ
strip axis z = min (unsigned_abs (int_max z axis.low -ℤ axis.low) / max axis.side 1) axis.last

-- the strips that a range touches
unfoldable pub reach : Axis → ℤ → ℤ → Reach
reach axis low high = record { first = strip axis low; last = strip axis high }

-- the strip is one of those
unfoldable pub is_reached : ℕ → Reach → Bool
is_reached strip reach = nat_le reach.first strip && nat_le strip reach.last

-- what is at the place touches the strip
unfoldable pub does_reach : List Reach → ℕ → ℕ → Bool
does_reach reaches strip place = option_map_or (is_reached strip) (slice_get reaches place) false

-- those of the places that touch the strip
abbrev pub reaching : List Reach → ℕ → List ℕ → List ℕ
reaching reaches strip places = filter (does_reach reaches strip) places
