pub mod Fan
pub mod LastFirst
pub mod Pairs
pub mod Table
