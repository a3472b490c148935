-- The laws, each file after those that it cites.
pub mod Values
pub mod Loaded
pub mod Guarantee
pub mod Refusals
pub mod Deciding
pub mod Pointing
