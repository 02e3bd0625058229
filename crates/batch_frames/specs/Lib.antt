pub mod Ends
pub mod Decodes
pub mod Escapes
pub mod Parts
pub mod Shapes
pub mod Takes
pub mod Texts
pub mod Valid
