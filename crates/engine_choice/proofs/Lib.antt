-- The laws, each file after those that it cites.
pub mod Gathered
pub mod Tried
pub mod Sets
pub mod Passes
