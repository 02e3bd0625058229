pub mod Feeding
pub mod Joining
pub mod Laws
pub mod Readings
pub mod Stepping
pub mod Taking
