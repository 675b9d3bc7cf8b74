pub mod Conditions
pub mod Ends
pub mod ListsOf
pub mod Pairs
pub mod Paths
pub mod Sound
pub mod AgreeGood
pub mod OneFinding
