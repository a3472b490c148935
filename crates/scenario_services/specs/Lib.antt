-- Of the code: the definitions, each file after those that it cites.
pub mod Keeping
pub mod Lending
pub mod Examples
