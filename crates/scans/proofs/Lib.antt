pub mod Scans
pub mod Entries
pub mod Filling
pub mod ListAnswers
pub mod EndToEnd
pub mod Report
