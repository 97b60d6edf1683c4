pub mod Plan
pub mod Run
