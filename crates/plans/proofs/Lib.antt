pub mod Running
pub mod PlannedScans
pub mod Unrefused
pub mod Demand3
pub mod Report
