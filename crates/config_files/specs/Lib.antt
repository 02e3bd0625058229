pub mod Adding
pub mod Causes
pub mod Configurations
pub mod Naming
pub mod Refusals
pub mod Texts
