pub mod Changes
pub mod Events
pub mod Fields
pub mod Members
pub mod Patterns
pub mod Reads
pub mod Rows
pub mod Tokens
