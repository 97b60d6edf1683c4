pub mod Print
pub mod Parts
pub mod Report
pub mod Shown
