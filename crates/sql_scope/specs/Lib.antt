pub mod Spelling
pub mod Scope
pub mod Mentions
pub mod Shown
pub mod Naming
