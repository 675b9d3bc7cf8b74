pub mod Books
pub mod Bytes
pub mod LineFiles
pub mod Names
pub mod Parts
pub mod Tables
pub mod Writing
