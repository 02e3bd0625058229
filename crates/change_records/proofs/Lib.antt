pub mod AllThere
pub mod ChangeMembers
pub mod FirstCategory
pub mod FoundMembers
pub mod LineObject
pub mod PartMatches
pub mod PathMatches
pub mod TokenReading
