pub mod Fork
pub mod Needs
pub mod Rows
