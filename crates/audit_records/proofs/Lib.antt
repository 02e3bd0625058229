pub mod Builds
pub mod CallFields
pub mod CommandLine
pub mod EventRows
pub mod FieldGrammar
pub mod HexNumber
pub mod HexText
mod LineExamples
pub mod LineGrammar
pub mod Parts
pub mod PiecesEnd
pub mod Places
pub mod Runs
pub mod Steps
pub mod UntilMissing
