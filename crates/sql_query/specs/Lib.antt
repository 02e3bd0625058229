pub mod Exprs
pub mod View
pub mod Resolved
pub mod Tables
pub mod Standing
pub mod Answers
