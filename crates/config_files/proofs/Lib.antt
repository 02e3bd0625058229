pub mod Packs
pub mod Texts
pub mod Unread
pub mod Walk
