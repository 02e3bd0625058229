mod Beginnings
mod CharCounts
mod CharSteps
mod Fitting
mod Lowering
mod Past
mod PieceFits
mod Replacing
pub mod Retries
mod Spaces
mod Turned
