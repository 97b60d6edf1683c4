pub mod Rows
pub mod Packing
pub mod Naming
