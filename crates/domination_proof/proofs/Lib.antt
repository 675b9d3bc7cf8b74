pub mod Copied
pub mod HasTexts
pub mod ShortTexts
pub mod Shows
