pub mod Ranges
pub mod Maximal
pub mod Rows
pub mod Answers
pub mod FlagPass
pub mod Joining
pub mod Listed
pub mod Few
