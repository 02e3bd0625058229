pub mod Answered
pub mod Laws
pub mod Lines
pub mod Prefixes
pub mod Sent
