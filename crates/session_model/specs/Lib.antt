pub mod Configuring
pub mod Given
pub mod Laws
pub mod Orders
pub mod Sessions
pub mod Taking
pub mod Ticking
pub mod Working
