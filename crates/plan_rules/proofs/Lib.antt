pub mod Edges
pub mod SelfRun
pub mod RunIsWalk
pub mod Holding
pub mod Again
pub mod OwnStore
pub mod Decided
pub mod Needed
