pub mod Numbers
pub mod Pieces
pub mod Nearest
pub mod Scanning
pub mod Spelling
pub mod FixedLaws
