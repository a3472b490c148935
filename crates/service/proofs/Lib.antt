-- The laws, each file after those that it cites.
pub mod Finite
pub mod Named
pub mod States
pub mod Numbering
pub mod Reading
