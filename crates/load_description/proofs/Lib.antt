-- The laws, each file after those that it cites.
pub mod Words
pub mod Spaced
