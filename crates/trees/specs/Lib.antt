pub mod Layout
pub mod Tree
pub mod Held
pub mod Nodes
