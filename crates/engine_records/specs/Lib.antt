-- Of the code: the definitions, each file after those that it cites.
pub mod Sound
pub mod Rest
