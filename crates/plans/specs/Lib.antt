pub mod Run
pub mod Report
