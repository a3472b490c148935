-- Of the code: the definitions, each file after those that it cites.
pub mod Words
pub mod Decimals
pub mod Properties
pub mod Examples
