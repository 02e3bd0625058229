pub mod Listed
pub mod Notes
