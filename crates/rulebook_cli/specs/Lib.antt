pub mod Words
pub mod Pick
pub mod Help
pub mod Asked
pub mod Headline
pub mod Laws
