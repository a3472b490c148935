-- Of the code: the definitions, each file after those that it cites.
pub mod Guarantee
pub mod Refusals
pub mod Worked
