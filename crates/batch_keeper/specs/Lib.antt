pub mod Calling
pub mod Counted
pub mod Fetching
pub mod Indexing
