pub mod Answered
pub mod Counted
pub mod Meant
pub mod Refused
pub mod Rounded
pub mod Spent
pub mod Taken
pub mod Turned
