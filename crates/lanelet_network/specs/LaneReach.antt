-- Which strips a lanelet's box touches: this project's own.
use Rattle.fixed_geometry.specs.Boxes.{bounds}
use Rattle.lanelet_network.specs.Lanes.{Lane}
use Rattle.lanelet_network.specs.Strips.{reach}
use Rattle.lanelet_network.specs.declared.axis.Axis.{Axis}
use Rattle.lanelet_network.specs.declared.axis.Reach.{Reach}

-- the columns that the lanelet's box touches
unfoldable pub reach_in_x : Axis → Lane → Reach
reach_in_x columns lane = reach columns (bounds lane.corners).low.x (bounds lane.corners).high.x

-- the rows that the lanelet's box touches
unfoldable pub reach_in_y : Axis → Lane → Reach
reach_in_y rows lane = reach rows (bounds lane.corners).low.y (bounds lane.corners).high.y
