pub mod Asking
pub mod Commits
pub mod Told
