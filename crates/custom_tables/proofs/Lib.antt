mod Alike
pub mod CatalogueLaws
pub mod Feeding
mod Groups
mod PatternLaws
pub mod Rings
