pub mod Asking
pub mod Reading
pub mod Refusals
pub mod Rounds
pub mod Running
pub mod Skipping
