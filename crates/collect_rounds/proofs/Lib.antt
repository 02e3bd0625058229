pub mod Alike
pub mod Isolating
pub mod Lines
pub mod Reopening
pub mod Rounding
pub mod Standing
pub mod Stops
pub mod Taking
