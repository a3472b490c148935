-- Of the code: the definitions, each file after those that it cites.
pub mod Settings
pub mod Lines
pub mod Texts
pub mod Examples
