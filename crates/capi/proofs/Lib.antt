pub mod ScanNumbers
pub mod Blocks
pub mod Columns
pub mod HeldStores
pub mod HeldPlans
