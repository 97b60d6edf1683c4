pub mod ByTarget
pub mod Rows
