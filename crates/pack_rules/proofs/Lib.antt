pub mod ByNames
pub mod Counted
pub mod Rising
pub mod Soundness
pub mod VersionNumbers
