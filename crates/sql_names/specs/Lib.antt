pub mod Least
pub mod Results
pub mod Kinds
pub mod Making
pub mod Bare
pub mod Resolve
pub mod Unmeant
