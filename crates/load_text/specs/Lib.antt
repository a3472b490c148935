-- Of the code: the definitions, each file after those that it cites.
pub mod Strings
pub mod Numbers
pub mod Bytes
pub mod Lines
pub mod Offsets
pub mod Examples
