-- The laws, each file after those that it cites.
pub mod Steps
pub mod Running
