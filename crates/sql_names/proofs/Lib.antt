pub mod Walks
pub mod Leasts
pub mod Labels
pub mod Bares
pub mod Answered
pub mod Places
pub mod Fines
pub mod Standings
pub mod ItemsStand
pub mod PartsStand
pub mod QueryStands
pub mod SameTrees
mod Numbered
