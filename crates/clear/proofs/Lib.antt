pub mod Parents
pub mod Marks
