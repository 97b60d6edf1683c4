pub mod PastEnd
pub mod Spread
pub mod Ends
pub mod Written
pub mod Lines
pub mod Turns
mod Refusals
