pub mod Apart
pub mod Placing
pub mod Seeking
pub mod Noting
pub mod Knowing
pub mod Least
