pub mod New
pub mod Report
