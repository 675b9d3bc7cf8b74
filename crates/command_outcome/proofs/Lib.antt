pub mod Options
pub mod HavingInputs
pub mod Serving
pub mod CallEnds
pub mod DueOutcomes
pub mod Answering
