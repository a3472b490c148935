-- Of the code: the definitions, each file after those that it cites.
pub mod Limits
pub mod Settings
pub mod Records
pub mod Numbers
