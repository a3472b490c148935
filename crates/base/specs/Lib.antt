-- Of the code: the definitions, each file after those that it cites.
pub mod Folds
pub mod Sets
pub mod Links
