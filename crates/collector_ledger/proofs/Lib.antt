pub mod Ends
pub mod Recorded
pub mod Taken
