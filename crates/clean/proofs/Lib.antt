pub mod Ties
pub mod Lowest
pub mod Rows
pub mod Breaches
pub mod Report
