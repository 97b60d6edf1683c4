pub mod Scan
pub mod List
pub mod Report
