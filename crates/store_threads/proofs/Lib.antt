pub mod Owners
pub mod Sent
