pub mod Fronts
pub mod SampleWords
pub mod PickLaw
pub mod OneOutcome
pub mod Accepted
pub mod Headlines
