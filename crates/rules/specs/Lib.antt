-- Of the code: the definitions, each file after those that it cites.
pub mod Dependencies
pub mod WellFormed
pub mod Settling
pub mod Events
pub mod Choice
pub mod Rules
pub mod Runs
pub mod Calls
pub mod Demand
pub mod Worked
pub mod Readings
pub mod Examples
