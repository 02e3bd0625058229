pub mod Accepted
pub mod Held
pub mod Laws
pub mod Meaning
pub mod TextFaults
pub mod TextTree
pub mod Texts
