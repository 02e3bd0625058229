pub mod Filled
pub mod Fleets
pub mod Names
pub mod Tables
pub mod Wanted
