pub mod Numbers
pub mod Parts
pub mod Integers
pub mod Laid
pub mod Means
pub mod Back
pub mod Form
pub mod Cases
