-- The laws, each file after those that it cites.
pub mod Scans
pub mod Writing
pub mod Loops
pub mod Counts
pub mod Spaced
pub mod Faults
