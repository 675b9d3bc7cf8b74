pub mod Answers
pub mod Failing
pub mod GoodCertificate
pub mod Labels
