pub mod Changed
pub mod Receiving
