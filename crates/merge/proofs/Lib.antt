pub mod Twins
pub mod Grouping
pub mod Rounds
