-- The laws, each file after those that it cites.
pub mod Rounds
pub mod Descent
pub mod Spreading
