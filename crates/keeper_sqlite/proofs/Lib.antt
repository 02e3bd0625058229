pub mod Commits
pub mod Seals
