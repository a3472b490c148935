-- Of the code: the definitions, each file after those that it cites.
pub mod Numbers
pub mod Pieces
pub mod Examples
