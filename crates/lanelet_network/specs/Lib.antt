pub mod Boxes
pub mod Bounds
pub mod Lanes
pub mod Strips
pub mod LaneReach
pub mod Cells
