pub mod Laws
pub mod Ledgers
pub mod Receipts
pub mod Received
