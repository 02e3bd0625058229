pub mod Digits
mod Examples
pub mod Fronts
pub mod NamedTables
pub mod OrderLaws
