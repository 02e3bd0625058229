pub mod Calls
pub mod Reading
pub mod Stack
pub mod Turns
