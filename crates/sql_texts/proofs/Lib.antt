pub mod DerivedTree
pub mod Known
pub mod KnownMeaning
pub mod Named
pub mod TextAnswers
pub mod TextStands
pub mod Wide
