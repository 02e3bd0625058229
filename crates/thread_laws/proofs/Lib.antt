pub mod Adding
pub mod Agreed
pub mod Alike
pub mod Bodies
pub mod Joined
pub mod Numbers
pub mod Seats
pub mod Timely
