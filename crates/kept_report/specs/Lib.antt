pub mod Counting
pub mod Ordered
pub mod Reports
