-- The laws, each file after those that it cites.
pub mod Kept
pub mod Laws
pub mod Services
pub mod Outcomes
