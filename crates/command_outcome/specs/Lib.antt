pub mod FileWords
pub mod Outcome
pub mod Inputs
pub mod Tasks
pub mod Ends
