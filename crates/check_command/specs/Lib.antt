pub mod Answers
pub mod Driven
pub mod Certificates
pub mod Check
pub mod Headline
pub mod CheckWords
pub mod CheckProgram
