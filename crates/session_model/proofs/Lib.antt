mod Done
mod Examples
mod Forgotten
mod Names
mod Steps
