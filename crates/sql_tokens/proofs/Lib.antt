pub mod Blanks
pub mod Lexed
pub mod Tables
