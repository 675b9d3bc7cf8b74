pub mod Lending
pub mod Name
pub mod NameInside
pub mod Preorder
pub mod Relation
pub mod Statements
pub mod Violation
