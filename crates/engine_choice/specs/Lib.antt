-- Of the code: the definitions, each file after those that it cites.
pub mod Standing
pub mod Fitting
pub mod Fits
pub mod Lost
