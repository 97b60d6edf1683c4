pub mod Layout
pub mod Masks
