pub mod Fitting
pub mod GraphWords
pub mod Buffers
pub mod Marking
pub mod Edges
pub mod Views
pub mod Naming
