pub mod AscendingAnswers
pub mod Ordered
pub mod Ways
pub mod Shown
pub mod Checks
pub mod CheckLaw
pub mod CheckHeadline
