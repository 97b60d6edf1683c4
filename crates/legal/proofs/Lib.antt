pub mod Judging
pub mod Legal
pub mod Steps
pub mod Views
