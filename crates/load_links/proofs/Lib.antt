-- The laws, each file after those that it cites.
pub mod Laws
pub mod Cycles
