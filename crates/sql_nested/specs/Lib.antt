pub mod Roles
pub mod Outlook
pub mod Levels
pub mod Breaches
pub mod Chains
pub mod Extending
pub mod Meanings
pub mod Trees
