pub mod Faults
pub mod Rows
pub mod Fields
pub mod Records
pub mod Layers
pub mod Peeling
pub mod Judgements
