pub mod Placing
pub mod Occupancy
pub mod Nearness
pub mod Tracks
pub mod Ticks
pub mod Bounds
pub mod Present
pub mod Corridor
