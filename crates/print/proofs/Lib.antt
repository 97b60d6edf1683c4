pub mod Errors
pub mod Answers
pub mod Rooms
pub mod Report
