-- Of the code: the definitions, each file after those that it cites.
pub mod Forms
pub mod Lines
pub mod Examples
