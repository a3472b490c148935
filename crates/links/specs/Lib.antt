-- Of the code: the definitions, each file after those that it cites.
pub mod Rows
pub mod Descent
pub mod Spreading
