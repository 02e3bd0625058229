pub mod Collecting
pub mod Laws
pub mod Rounds
pub mod Runs
pub mod Takes
