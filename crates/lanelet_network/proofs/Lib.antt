pub mod Ids
pub mod Nearest
pub mod Boxed
pub mod Ranges
pub mod Asked
