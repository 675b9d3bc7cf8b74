pub mod Bytes
pub mod Decimals
pub mod Rounding
pub mod Reading
pub mod Answers
pub mod Parts
