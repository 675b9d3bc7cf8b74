pub mod Truth
pub mod Places
pub mod Digits
pub mod LineLaws
pub mod ReadingLaws
pub mod FirstFault
pub mod Spelling
