pub mod Seats
pub mod Ends
pub mod Stepping
pub mod AtOnce
