pub mod Widths
pub mod Walks
pub mod Made
