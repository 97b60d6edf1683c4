pub mod Conditions
pub mod Records
