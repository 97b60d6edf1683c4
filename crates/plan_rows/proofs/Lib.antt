pub mod Forks
pub mod PlanRows
pub mod Rowwise
pub mod Growing
pub mod StateNeeds
pub mod Words
pub mod Ways
