pub mod Fetched
pub mod Made
