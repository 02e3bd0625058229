pub mod Jobs
pub mod Joining
pub mod Laws
pub mod Reached
pub mod Timely
