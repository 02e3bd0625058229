pub mod Grammar
pub mod SelectGrammar
pub mod Descent
pub mod Whole
pub mod SelectDescent
pub mod Judged
pub mod Text
