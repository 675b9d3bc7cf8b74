pub mod Same
pub mod Leasts
pub mod Rising
pub mod Bounding
pub mod Listing
pub mod Aside
