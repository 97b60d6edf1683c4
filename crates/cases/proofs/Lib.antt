pub mod Cases
pub mod Instance
pub mod Cleanness
