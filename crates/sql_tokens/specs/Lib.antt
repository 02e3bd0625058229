pub mod Tokens
pub mod Words
pub mod Lexing
pub mod Levels
