pub mod Completeness
pub mod Enough
pub mod Isolation
pub mod OneList
pub mod Questions
pub mod Ready
pub mod SelfTest
pub mod Ticks
