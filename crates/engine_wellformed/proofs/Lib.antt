-- The laws, each file after those that it cites.
pub mod Read
pub mod Whole
