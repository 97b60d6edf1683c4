pub mod Turn
pub mod Starts
pub mod Answering
pub mod Report
