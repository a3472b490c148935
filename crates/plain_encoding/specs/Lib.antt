-- Of the code: the definitions, each file after those that it cites.
pub mod Values
pub mod Numbers
pub mod Meaning
pub mod Encoding
pub mod Examples
