pub mod Angles
pub mod Meaning
