pub mod Bytes
pub mod Grammar
pub mod Reading
pub mod Rules
pub mod Tokens
pub mod Written
