pub mod Notes
pub mod Values
pub mod Shares
pub mod Turns
pub mod Answers
pub mod Words
pub mod Seats
pub mod Laws
