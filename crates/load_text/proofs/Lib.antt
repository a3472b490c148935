-- The laws, each file after those that it cites.
pub mod Chains
pub mod Runs
pub mod Lines
pub mod Offsets
