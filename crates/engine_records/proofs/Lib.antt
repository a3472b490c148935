-- The laws, each file after those that it cites.
pub mod Bounds
pub mod Formed
