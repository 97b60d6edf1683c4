pub mod BitRows
pub mod Backward
pub mod Looking
pub mod Pruning
