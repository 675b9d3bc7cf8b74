pub mod Loops
pub mod Waits
pub mod SignalLaws
pub mod UseLaws
pub mod LimitLaws
pub mod Measures
