pub mod Alike
pub mod Found
pub mod States
pub mod Tables
pub mod Visits
pub mod Waiting
