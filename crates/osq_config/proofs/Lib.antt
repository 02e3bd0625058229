pub mod Answered
pub mod Beside
pub mod Bounded
pub mod Lines
pub mod Names
pub mod Places
pub mod Rising
