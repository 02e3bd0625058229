pub mod Acks
pub mod Forwarded
pub mod Marking
