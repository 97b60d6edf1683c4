pub mod LeadBytes
pub mod Division
pub mod Dividing
