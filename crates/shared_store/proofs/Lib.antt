pub mod Lists
pub mod Goes
pub mod Shares
pub mod Turning
pub mod Seats
