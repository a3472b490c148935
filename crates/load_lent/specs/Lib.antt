-- Of the code: the definitions, each file after those that it cites.
pub mod Parts
pub mod Lents
pub mod Refusals
pub mod Checks
