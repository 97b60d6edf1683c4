pub mod Angles
pub mod Lent
pub mod Parts
pub mod Plans
pub mod Scans
pub mod Stores
