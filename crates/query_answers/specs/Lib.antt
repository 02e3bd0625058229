pub mod Discovery
pub mod Texts
