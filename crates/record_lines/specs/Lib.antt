pub mod Cutting
pub mod Held
pub mod Limits
pub mod Lines
pub mod Rests
