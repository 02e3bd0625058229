pub mod Fields
pub mod Judging
pub mod Lines
pub mod Reads
