pub mod Draws
pub mod Motorway
pub mod Maneuvers
pub mod Rules
pub mod Sample
