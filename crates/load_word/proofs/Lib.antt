-- The laws, each file after those that it cites.
pub mod Decimals
pub mod Words
pub mod Stores
pub mod Spaces
