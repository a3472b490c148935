-- The laws, each file after those that it cites.
pub mod Tests
pub mod Below
pub mod Loops
pub mod Sums
pub mod Bits
pub mod Sets
pub mod Words
pub mod Zeros
pub mod Filled
pub mod Links
pub mod Lists
pub mod Counting
pub mod Chains
