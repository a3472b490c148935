-- Of the code: the definitions, each file after those that it cites.
pub mod Steps
pub mod Quotes
pub mod Values
pub mod Stores
pub mod Examples
