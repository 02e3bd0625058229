pub mod Publishing
pub mod Working
pub mod Forking
