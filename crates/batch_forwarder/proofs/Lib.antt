pub mod Due
pub mod Following
pub mod Framed
pub mod Marked
pub mod Places
pub mod Polled
pub mod Sent
pub mod Told
