pub mod Frames
pub mod Json
pub mod Labels
pub mod Lines
