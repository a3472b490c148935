-- The laws, each file after those that it cites.
pub mod Accepted
pub mod Asked
