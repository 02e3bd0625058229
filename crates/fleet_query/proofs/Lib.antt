pub mod Lasts
pub mod LastsShown
pub mod Walked
pub mod WantedRows
