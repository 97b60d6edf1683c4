pub mod Children
pub mod Marks
