pub mod Frames
pub mod Laws
pub mod Polling
pub mod Sending
pub mod Windows
