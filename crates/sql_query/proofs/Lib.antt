pub mod Pushed
pub mod Sames
pub mod Widths
pub mod StandingLaws
pub mod StandingRows
pub mod NamesLength
pub mod Decided
