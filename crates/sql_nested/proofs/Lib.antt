pub mod Outlooks
pub mod Breaks
pub mod Traces
pub mod Beside
