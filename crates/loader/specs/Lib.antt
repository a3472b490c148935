-- Of the code: the definitions, each file after those that it cites.
pub mod Short
pub mod Tokens
pub mod Texts
pub mod Load
pub mod Inner
pub mod Examples
