pub mod Text
pub mod Display
pub mod Answers
pub mod Report
