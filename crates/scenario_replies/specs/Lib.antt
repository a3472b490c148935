-- Of the code: the definitions, each file after those that it cites.
pub mod Texts
pub mod Replies
pub mod Examples
